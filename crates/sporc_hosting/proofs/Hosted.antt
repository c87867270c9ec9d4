-- What is open as a server of several documents begins, and which files it asked for.
use Rattle.std.proofs.Common.{◌≡◌, ◌≤◌, inl, inr, ℕ, List, [], ◌∷◌, length, Option, Result, Err, refl, ◌∙◌, subst, arith}
use Rattle.sporc_hosting.proofs.Common.{Rose, Use, OrderModel, AllZip, Fault, file_name, names_of_document, AsksOnly, AsksOnly-among, AsksOnly-trans, AnswersUnlessOutside, HasLogged, ServedFiles}
use Rattle.sporc_hosting.proofs.Common.{LogTailModel, AreOpen, OpenLogModel, OpensMore, files_of_all, files_of_one, logs_of, AppendTold}
use Rattle.std.specs.List.{Contains}
use Rattle.sporc_outside.specs.Folders.{FolderTold}
use Rattle.std.proofs.lemmas.List.Elements.{Contains-append_cases, Contains-append_left, Contains-append_right}
use Rattle.sporc_files.specs.declared.fault.Fault.TheVariants as faults
use Rattle.sporc_files.specs.declared.file.File.TheVariants as files
use Rattle.sporc_hosting.proofs.Saved.{as_many}

module _ {D : Type 0} (file_told : D → AppendTold) where
  -- what is opened where nothing was open
  pub opened_first : (folder : Use FolderTold) (names : List (List ℕ)) (r : Result (Unit {0}) Fault) (old new : List OrderModel)
      (tails tails' : List (LogTailModel D)) (logs logs' : List OpenLogModel) → old ≡ [] → tails ≡ [] → logs ≡ []
      → ((first : List (List ℕ)) (begun : List ServedFiles) → AreOpen file_told first begun old tails logs
      → OpensMore file_told folder names 1 r old new tails' logs' first begun)
      → OpensMore file_told folder names 1 r [] new tails' logs' [] []
  opened_first folder names r old new tails tails' logs logs' no_order no_tail no_log opens =
      let none : AreOpen file_told [] [] old tails logs = rw (no_order, no_tail, no_log) record { kept = tt; logged = tt; named = tt; each = refl } in
      subst (λ (os : List OrderModel). OpensMore file_told folder names 1 r os new tails' logs' [] []) no_order (opens [] [] none)

  -- all of them are open
  pub all_open : (names opened : List (List ℕ)) (held contents : List ServedFiles) (orders : List OrderModel) (tails : List (LogTailModel D)) (logs : List OpenLogModel)
      → (opened ≡ names) × (held ≡ contents) → AreOpen file_told opened held orders tails logs
      → (length names ≡ length orders) × AllZip (λ content log. HasLogged content log.logged) contents logs
      × AllZip (λ name log. log.name ≡ file_name (names_of_document name) files.Tail) names logs
  all_open names opened held contents orders tails logs (names_are, contents_are) opens =
      let named : AllZip (λ (n : List ℕ) (l : OpenLogModel). l.name ≡ file_name (names_of_document n) files.Tail) names logs =
      subst (λ (ns : List (List ℕ)). AllZip (λ (n : List ℕ) (l : OpenLogModel). l.name ≡ file_name (names_of_document n) files.Tail) ns logs) names_are opens.named in (
        as_many (λ (n : List ℕ) (l : OpenLogModel). l.name ≡ file_name (names_of_document n) files.Tail) names logs named ∙ opens.each,
        subst (λ (cs : List ServedFiles). AllZip (λ (c : ServedFiles) (l : OpenLogModel). HasLogged c l.logged) cs logs) contents_are opens.logged,
        named,
      )

-- a count that rose rose over a longer time
pub tells_longer : (c0 c1 c2 : ℕ) (fault : Fault) (r : Result (List OrderModel) Fault) → c1 ≤ c2 → AnswersUnlessOutside (λ (os : List OrderModel). os) (Rose c0 c1) (Err fault) r
    → AnswersUnlessOutside (λ (os : List OrderModel). os) (Rose c0 c2) (Err fault) r
tells_longer c0 c1 c2 faults.Memory r low told = tt
tells_longer c0 c1 c2 faults.Outside r low told = omega (arith, low, told)
tells_longer c0 c1 c2 fault r low told = told

-- logs are among the files
logs_among : (names : List (List ℕ)) (name : List ℕ) → Contains (logs_of names) name → Contains (files_of_all names) name
logs_among [] name is = is
logs_among (n ∷ ns) name is =
    let log = file_name (names_of_document n) files.Log in
    elim (Contains-append_cases (log ∷ []) (logs_of ns) name is) [
      | inl here ↦ Contains-append_left (files_of_one n) (files_of_all ns) name
          (Contains-append_right (file_name (names_of_document n) files.Genesis ∷ file_name (names_of_document n) files.Tail ∷ []) (log ∷ []) name here)
      | inr there ↦ Contains-append_right (files_of_one n) (files_of_all ns) name (logs_among ns name there)
    ]

pub asked_again : (names : List (List ℕ)) (a b c : Option (List (List ℕ))) → AsksOnly (files_of_all names) a b → AsksOnly (logs_of names) b c → AsksOnly (files_of_all names) a c
asked_again names a b c first then =
    AsksOnly-trans (files_of_all names) a b c first (AsksOnly-among (logs_of names) (files_of_all names) b c (logs_among names) then)
