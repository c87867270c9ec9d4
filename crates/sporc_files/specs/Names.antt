-- The names of a command's files.
use Rattle.std.specs.Prelude.{ℕ, ◌-◌, List, [], ◌++◌, codes, slice_index_or}
use Rattle.std.specs.Fmt.{decimal}
use Rattle.sporc_member.specs.Device.{IsMember}
use Rattle.sporc_script.specs.Spelling.{DeviceInRange, device_text}
use Rattle.sporc_files.specs.declared.file.File.{File}
use Rattle.sporc_files.specs.declared.file.File.TheVariants as files

-- the name of a document, and those of editor scripts, or of several documents
pub record FileNames : Type 0 where
  pub document : List ℕ
  pub others : List (List ℕ)

-- that of a document alone
abbrev pub names_of_document : List ℕ → FileNames
names_of_document document = record { document = document; others = [] }

-- those of several documents
abbrev pub names_of_documents : List (List ℕ) → FileNames
names_of_documents documents = record { document = []; others = documents }

-- the name of a script, or of one of several documents, counted from 1
abbrev pub name_of_other : FileNames → ℕ → List ℕ
name_of_other names number = slice_index_or names.others (number - 1) []

-- what a file's name begins with: the document's, unless it is a script, or there are several
-- documents
abbrev pub stem_of : FileNames → File → List ℕ
stem_of names files.Genesis = names.document
stem_of names (files.Key device) = names.document
stem_of names (files.Leaf device) = names.document
stem_of names (files.Ring member) = names.document
stem_of names (files.History device) = names.document
stem_of names files.Log = names.document
stem_of names (files.Script editor) = name_of_other names editor
stem_of names (files.GenesisOf number) = name_of_other names number
stem_of names (files.LogOf number) = name_of_other names number
stem_of names (files.Document number) = name_of_other names number
stem_of names files.Tail = names.document
stem_of names (files.TailOf number) = name_of_other names number

-- what stands behind that
abbrev pub suffix_of : File → List ℕ
suffix_of files.Genesis = codes ".genesis"
suffix_of (files.Key device) = codes "." ++ (device_text device ++ codes ".key")
suffix_of (files.Leaf device) = codes "." ++ (device_text device ++ codes ".leaf")
suffix_of (files.Ring member) = codes "." ++ (decimal member ++ codes ".ring")
suffix_of (files.History device) = codes "." ++ (device_text device ++ codes ".history")
suffix_of files.Log = codes ".log"
suffix_of (files.Script editor) = []
suffix_of (files.GenesisOf number) = codes ".genesis"
suffix_of (files.LogOf number) = codes ".log"
suffix_of (files.Document number) = []
suffix_of files.Tail = codes ".tail"
suffix_of (files.TailOf number) = codes ".tail"

-- the name of a file
abbrev pub file_name : FileNames → File → List ℕ
file_name names file = stem_of names file ++ suffix_of file

-- a file of one document, whose numbers are in range
abbrev pub IsOfDocument : File → Type 0
IsOfDocument files.Genesis = Unit {0}
IsOfDocument (files.Key device) = DeviceInRange device
IsOfDocument (files.Leaf device) = DeviceInRange device
IsOfDocument (files.Ring member) = IsMember member
IsOfDocument (files.History device) = DeviceInRange device
IsOfDocument files.Log = Unit {0}
IsOfDocument files.Tail = Unit {0}
IsOfDocument other = ⊥
