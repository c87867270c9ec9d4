-- Rings that are written, and what stands if one is not.
use Rattle.std.proofs.Common.{◌≡◌, ℕ, ◌+◌, ◌<◌, ◌≤◌, List, [], ◌∷◌, length, map, take, get_or, Option, inl, subst, add-one, arith}
use Rattle.sporc_commands.proofs.Common.{NamedFile, FolderTold, RingFile, ring_file_bytes, Fault, FileNames, file_name, IsOutsideFault, LeavesFile, Stores, StoresFirst, StoresPrefix, file_with, WriteCase}
use Rattle.sporc_commands.proofs.Common.{WriteFailed, WriteMemory, write_case, IsStoreFault, ring_of_founding}
use Rattle.sporc_files.specs.declared.file.File.TheVariants as files
use Rattle.sporc_commands.proofs.Storing.{first_then, map_around, map_more, stored_all, stored_then}

module _ (names : FileNames) (rings : List RingFile) (i : ℕ) (low mid : FolderTold) (stored : Stores (map (ring_of_founding names) (take i rings)) low.files mid.files) (x : RingFile) (within : i < length rings) where
  -- neither this one nor the others were
  pub others_not : (after : Option (List NamedFile)) → after ≡ mid.files → StoresFirst (map (ring_of_founding names) rings) low.files after
  others_not after same =
      subst (λ (new : List NamedFile). StoresFirst new low.files after) (map_around (ring_of_founding names) rings i x within)
      (first_then (map (ring_of_founding names) (take i rings)) _ low.files mid.files after stored (inl same))

  module _ (is : x ≡ get_or rings i x) where
    at_ring : (high : FolderTold) (fault : Fault) → low.faults ≤ mid.faults → WriteCase mid.faults high.faults fault
        → LeavesFile (file_name names (files.Ring (get_or rings i x).member)) mid.files high.files fault → IsStoreFault (map (ring_of_founding names) rings) (record { before = low; after = high }) fault
    at_ring high fault more WriteMemory left = others_not high.files left
    at_ring high fault more (WriteFailed rose) left = (
      omega (arith, rose, more),
      subst (λ (new : List NamedFile). StoresPrefix new low.files high.files) (map_around (ring_of_founding names) rings i x within)
          (stored_then (map (ring_of_founding names) (take i rings)) _ low.files mid.files high.files stored (inl left)),
    )

    -- this one was not
    pub ring_fails : (high : FolderTold) (fault : Fault) → low.faults ≤ mid.faults → IsOutsideFault mid.faults high.faults fault
        → LeavesFile (file_name names (files.Ring x.member)) mid.files high.files fault → IsStoreFault (map (ring_of_founding names) rings) (record { before = low; after = high }) fault
    ring_fails high fault more why left =
        at_ring high fault more (write_case mid.faults high.faults fault why)
        (subst (λ (ring : RingFile). LeavesFile (file_name names (files.Ring ring.member)) mid.files high.files fault) is left)

    -- this one was
    pub ring_more : (after : Option (List NamedFile)) (bytes : List ℕ) → bytes ≡ ring_file_bytes x → Stores (file_with names (files.Ring x.member) bytes ∷ []) mid.files after
        → Stores (map (ring_of_founding names) (take (i + 1) rings)) low.files after
    ring_more after bytes spelled last =
        let one = subst (λ (b : List ℕ). Stores (file_with names (files.Ring x.member) b ∷ []) mid.files after) spelled last in
        let here = subst (λ (ring : RingFile). Stores (ring_of_founding names ring ∷ []) mid.files after) is one in
        rw (add-one, map_more (ring_of_founding names) rings i x within) (stored_all (map (ring_of_founding names) (take i rings)) _ low.files mid.files after stored here)
