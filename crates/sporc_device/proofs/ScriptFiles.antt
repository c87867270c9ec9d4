-- Scripts among the files that are asked for.
use Rattle.std.proofs.Common.{◌≡◌, ℕ, zero, suc, ◌+◌, ◌<◌, ⊎_elim, List, [], ◌∷◌, ◌++◌, map, sym, ap, ◌∙◌, subst, arith}
use Rattle.sporc_device.proofs.Common.{map-append, Script, FileNames, file_name, script_files, All-contains, All-nil, All-push, Contains-append_left, Contains-push}
use Rattle.std.specs.List.{Contains}
use Rattle.std.proofs.lemmas.Bool.{cases_lt}
use Rattle.sporc_base.specs.Numbers.{up_to}
use Rattle.sporc_files.proofs.Asking.{Among}

module _ (names : FileNames) where
  -- one of the scripts of so many editors
  among_scripts : (count read : ℕ) → read < count → Contains (map (file_name names) (script_files count)) (file_name names (Script (read + 1)))
  among_scripts zero read less = absurd (omega (arith, less))
  among_scripts (suc count) read less =
      let some = map (file_name names) (script_files count) in
      let last = file_name names (Script (suc count)) in
      let all : map (file_name names) (script_files (suc count)) ≡ some ++ last ∷ [] =
      ap (map (file_name names)) (map-append Script (up_to count) (suc count ∷ [])) ∙ map-append (file_name names) (script_files count) (Script (suc count) ∷ []) in
      subst (λ (l : List (List ℕ)). Contains l (file_name names (Script (read + 1)))) (sym all)
      (⊎_elim (λ (before : read < count). Contains-append_left some (last ∷ []) _ (among_scripts count read before))
      (λ past. let at : read ≡ count = omega (arith, past, less) in subst (λ (n : ℕ). Contains (some ++ last ∷ []) (file_name names (Script n))) (omega (arith, at)) (Contains-push some last))
      (cases_lt read count))

  pub script_among : (count read : ℕ) → read < count → Among names (Script (read + 1) ∷ []) (script_files count)
  script_among count read less =
      let all = map (file_name names) (script_files count) in
      let one = file_name names (Script (read + 1)) in
      λ name. All-contains (Contains all) (one ∷ []) name (All-push (Contains all) [] one (All-nil (Contains all)) (among_scripts count read less))
