-- Lines that are appended in parts.
use Rattle.std.proofs.Common.{◌≡◌, ℕ, List, ◌++◌, append_assoc, ap, ◌∙◌, Result, Ok, Err}
use Rattle.sporc_report.proofs.Common.{is_ok, if◌then◌else◌}
use Rattle.std.specs.Result.{OnOk}
use Rattle.sporc_report.proofs.Common.{OnErr, StartsWith}
use Rattle.sporc_report.proofs.Beginnings.{begins_then}

pub told_by_last : {X F : Type 0} (r : Result X F) (old first second new m text name end : List ℕ) → first ≡ old ++ (m ++ text) → second ≡ first ++ name → OnOk r (new ≡ second ++ end) → OnOk r (new ≡ old ++ (m ++ (text ++ (name ++ end))))
told_by_last (Ok x) old first second new m text name end a b c =
    c ∙ ap (λ (t : List ℕ). t ++ end) (b ∙ ap (λ (t : List ℕ). t ++ name) a) ∙ append_assoc (old ++ (m ++ text)) name end ∙ append_assoc old (m ++ text) (name ++ end)
    ∙ ap (λ (t : List ℕ). old ++ t) (append_assoc m text (name ++ end))
told_by_last (Err e) old first second new m text name end a b c = tt

pub told_in_parts : {X F : Type 0} (r : Result X F) (old first second new m text name end : List ℕ) → first ≡ old ++ (m ++ text) → second ≡ first ++ name → new ≡ (if is_ok r then second ++ end else second) → OnOk r (new ≡ old ++ (m ++ (text ++ (name ++ end))))
told_in_parts {X = X} {F = F} (Ok x) old first second new m text name end a b c =
    told_by_last {X = X} {F = F} (Ok x) old first second new m text name end a b c
told_in_parts (Err e) old first second new m text name end a b c = tt

-- what is appended behind a number between two words
pub told_behind : {X F : Type 0} (r : Result X F) (old mid new before number behind end : List ℕ) → mid ≡ old ++ (before ++ (number ++ behind)) → OnOk r (new ≡ mid ++ end) → OnOk r (new ≡ old ++ (before ++ (number ++ (behind ++ end))))
told_behind (Ok x) old mid new before number behind end a b =
    b ∙ ap (λ (t : List ℕ). t ++ end) a ∙ append_assoc old (before ++ (number ++ behind)) end
    ∙ ap (λ (t : List ℕ). old ++ t) (append_assoc before (number ++ behind) end ∙ ap (λ (t : List ℕ). before ++ t) (append_assoc number behind end))
told_behind (Err e) old mid new before number behind end a b = tt

-- an error behind what was appended before it
pub begins_in_err : {X F : Type 0} (r : Result X F) (old mid new text : List ℕ) → mid ≡ old ++ text → StartsWith new mid → OnErr r (StartsWith new old)
begins_in_err (Ok x) old mid new text first later = tt
begins_in_err (Err e) old mid new text first later = begins_then old mid new text first later
