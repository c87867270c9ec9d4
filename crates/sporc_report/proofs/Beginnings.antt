-- Texts that are appended one after another.
use Rattle.std.proofs.Common.{◌≡◌, ℕ, List, ◌++◌, append_assoc, ap, ◌∙◌, Result, Ok, Err}
use Rattle.sporc_report.proofs.Common.{OnErr, OnOk, StartsWith}

pub begins_then : (old mid new text : List ℕ) → mid ≡ old ++ text → StartsWith new mid → StartsWith new old
begins_then old mid new text first later = (text ++ later.0, later.1 ∙ ap (λ (t : List ℕ). t ++ later.0) first ∙ append_assoc old text later.0)

pub begins_last : (X F : Type 0) (r : Result X F) (old mid new text : List ℕ) → mid ≡ old ++ text → OnErr r (StartsWith new mid) → OnErr r (StartsWith new old)
begins_last X F (Ok x) old mid new text first later = tt
begins_last X F (Err e) old mid new text first later = begins_then old mid new text first later

pub begins_more : (old mid new : List ℕ) → StartsWith mid old → StartsWith new mid → StartsWith new old
begins_more old mid new first later = begins_then old mid new first.0 first.1 later

-- it has grown, whatever the answer
pub begins_either : (X F : Type 0) (r : Result X F) (old new text : List ℕ) → OnOk r (new ≡ old ++ text) → OnErr r (StartsWith new old) → StartsWith new old
begins_either X F (Ok x) old new text told kept = (text, told)
begins_either X F (Err e) old new text told kept = kept
