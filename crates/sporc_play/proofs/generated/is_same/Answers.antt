use Rattle.std.proofs.Common.{◌≡◌, List, ℕ, String, string_bytes, true, false, ap, sym, ◌∙◌}
use Rattle.sporc_play.proofs.Common.{chars_from_encodes, IsUtf8-string_bytes, chars, encode_utf8_all, genesis_bytes, chain, ClientModel, state_of, Opening, shown_of, replay_opening, hashes_of}
use Rattle.sporc_play.proofs.generated.is_same.Goals as goal

pub returns-then-not-are_same_texts : goal.returns-then-not-are_same_texts
returns-then-not-are_same_texts c = (
  λ yes. absurd cc,
  λ same.
      let bytes = c.in_ok-text.ensures.value ∙ ap encode_utf8_all same.1 ∙ sym c.in_ok-others.ensures.value in
      let yes : c.are_same_texts.result ≡ true = c.are_same_texts.ensures.1 bytes in
      let no : true ≡ false = sym yes ∙ c.if-not-are_same_texts.true in
      absurd cc,
)

-- a text spells its characters
spelled : {Z : Type 0} (t : String Z) (cs : List ℕ) → string_bytes t ≡ encode_utf8_all cs → chars (string_bytes t) ≡ cs
spelled t cs is = sym (chars_from_encodes cs (string_bytes t) (IsUtf8-string_bytes t) (sym is))

-- the chain values of a client's entries are those that its line of them keeps
kept : {D : Type 0} (c : ClientModel D) (hashes : List (List ℕ)) → hashes ≡ chain (genesis_bytes c.opening.genesis) (state_of c).entries → hashes ≡ hashes_of (state_of c)
kept c hashes is = is ∙ ap (λ (o : Opening). chain (genesis_bytes o.genesis) (state_of c).entries) (sym (replay_opening c.opening c.log))

pub returns : goal.returns
returns c =
    let bytes = c.are_same_texts.ensures.0 c.if-not-are_same_texts.false in
    let text = spelled c.in_ok-text.text (shown_of (state_of c.args.one.now)) c.in_ok-text.ensures.value in
    let others = spelled c.in_ok-others.others (shown_of (state_of c.args.other.now)) c.in_ok-others.ensures.value in
    let ones = kept c.args.one.now c.hashes.result.now c.hashes.ensures.value in
    let theirs = kept c.args.other.now c.hashes-2.result.now c.hashes-2.ensures.value in (
      λ yes. (sym ones ∙ c.are_same_hashes.ensures.0 yes ∙ theirs, sym text ∙ ap chars bytes ∙ others),
      λ same. c.are_same_hashes.ensures.1 (ones ∙ same.0 ∙ sym theirs),
    )
