pub mod LeafFiles
