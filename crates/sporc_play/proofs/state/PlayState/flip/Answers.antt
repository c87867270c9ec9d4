use Rattle.std.proofs.Common.{◌≡◌, ◌+◌, ◌++◌, List, ℕ, arith, length, map, ap, ◌∙◌, sym, append-nil, Global, Vec, Some, [], ◌∷◌, string_bytes}
use Rattle.sporc_play.proofs.Common.{length-map, entry_line, entry_at, flips}
use Rattle.sporc_play.proofs.Becoming.{entries_of, ok_any, ok_both, ok_then}
use Rattle.sporc_play.proofs.Kept.{flip_act, made_becomes, flip_tale, flip_tells, no_byte_act, no_byte_line, unchanged}
use Rattle.sporc_play.proofs.state.PlayState.flip.Goals as goal

pub returns-then-at-entry : goal.returns-then-at-entry
returns-then-at-entry c =
    let old = c.args.self.now in
    let f = c.args.flip.now in
    let entry = c.in-Some.entry.now in
    let found : entry_at (entries_of old) f.entry ≡ Some entry =
    ap (λ (xs : List (Vec ℕ Global)). entry_at (map (λ b. b.items) xs) f.entry) (sym c.as_slice.ensures.value) ∙ sym c.in-Some.ensures.value in
    record {
      state = ok_any c.push_no_byte.result _ (made_becomes old old [] (λ made. flips f.at (entry_at made f.entry)) (unchanged old) (sym (append-nil (entries_of old))) (no_byte_act (entries_of old) f entry found c.if-at-entry.true));
      line = ok_then c.push_no_byte.result _ _ c.push_no_byte.ensures (λ is. flip_tells old f _ _
          (is ∙ ap (λ (l : List ℕ). string_bytes c.args.out.now ++ l) (sym (no_byte_line (entries_of old) f (length (entries_of old) + 1) entry found c.if-at-entry.true))));
    }

pub returns : goal.returns
returns c =
    let old = c.args.self.now in
    let f = c.args.flip.now in
    let entry = c.in-Some.entry.now in
    let found : entry_at (entries_of old) f.entry ≡ Some entry =
    ap (λ (xs : List (Vec ℕ Global)). entry_at (map (λ b. b.items) xs) f.entry) (sym c.as_slice.ensures.value) ∙ sym c.in-Some.ensures.value in
    let (byte, there, is) = c.in_ok-bytes.ensures in
    let number : length old.made.items + 1 ≡ length (entries_of old) + 1 = omega (arith, length-map old.made.items (λ (b : Vec ℕ Global). b.items)) in
    record {
      state = ok_both c.keep.result _ _ _ c.keep.ensures.others c.keep.ensures.made (λ same grown.
          made_becomes old c.keep.new.self (c.in_ok-bytes.bytes.items ∷ []) (λ made. flips f.at (entry_at made f.entry)) same grown (flip_act (entries_of old) f entry byte c.in_ok-bytes.bytes.items found there is));
      line = ok_then c.keep.result _ _ c.keep.ensures.line (λ told. flip_tells old f _ _
          (told ∙ ap (λ (n : ℕ). string_bytes c.args.out.now ++ entry_line n) number
          ∙ ap (λ (l : List ℕ). string_bytes c.args.out.now ++ l) (sym (flip_tale (entries_of old) f (length (entries_of old) + 1) entry byte found there))));
    }
