-- How the logs of several documents are saved, one after another.
use Rattle.std.specs.Prelude.{◌≡◌, ℕ, List, [], ◌∷◌, ◌++◌, codes, length, Result, Ok}
use Rattle.std.specs.Fmt.{decimal}
use Rattle.sporc_order.specs.OrderModel.{OrderModel}
use Rattle.sporc_files.specs.declared.fault.Fault.{Fault}
use Rattle.sporc_files.specs.declared.file.File.TheVariants as files
use Rattle.sporc_files.specs.Faults.{first_fault}
use Rattle.sporc_files.specs.Names.{file_name, names_of_document}
use Rattle.sporc_hosting.specs.Moments.{IsBehind, Moment, folder_between, sink_between}
use Rattle.sporc_hosting.specs.Outcomes.{KeepsLog}

-- the logs' names
abbrev pub logs_of : List (List ℕ) → List (List ℕ)
logs_of [] = []
logs_of (name ∷ names) = file_name (names_of_document name) files.Log ∷ logs_of names

-- the line that says how many entries of a document were saved
abbrev pub document_line : List ℕ → ℕ → List ℕ
document_line name len = codes "log " ++ (name ++ (codes " " ++ (decimal len ++ codes "\n")))

-- Each log was saved, in this order, as `serve` saves one, whatever came of those before it. Of
-- their faults the first is answered, but out of memory goes before others.
abbrev pub KeepsLogs : List (List ℕ) → List OrderModel → Moment → Moment
    → Result (Unit {0}) Fault → Type 0
KeepsLogs [] [] a b answer = (b ≡ a) × (answer ≡ Ok tt)
KeepsLogs (name ∷ names) (order ∷ orders) a b answer = (mid : Moment)
    × (one : Result (Unit {0}) Fault) × (others : Result (Unit {0}) Fault) × IsBehind a mid
    × KeepsLog (names_of_document name) (folder_between a mid) (sink_between a mid) order
    (document_line name (length order.entries)) one
    × KeepsLogs names orders mid b others × (answer ≡ first_fault one others)
KeepsLogs names orders a b answer = ⊥
