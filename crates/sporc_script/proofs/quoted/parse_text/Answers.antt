use Rattle.std.proofs.Common.{◌≡◌, ℕ, string_bytes, Some, Vec, Global, true, false, sym, ap, flat_map, ◌∙◌}
use Rattle.sporc_script.proofs.Common.{chars, encode_utf8_all, IsUtf8-string_bytes, scalars-chars, escape}
use Rattle.sporc_script.proofs.Escapes.{body_of, quoted_of, no_text, same_text}
use Rattle.sporc_script.proofs.Exact.{read_is, read_none}
use Rattle.sporc_script.proofs.TextWords.{rest_of, text_exact}
use Rattle.sporc_script.proofs.quoted.parse_text.Goals as goal

pub returns-in_default : goal.returns-in_default
returns-in_default c = record { ok = sym (read_none _ _ _ _ text_exact c.args.word.now (λ t scalars is. c.in_default.ensures.value _ is)) }

pub returns-in_default-before : goal.returns-in_default-before
returns-in_default-before c = record { ok = sym (read_none _ _ _ _ text_exact c.args.word.now (λ t scalars is. c.in_default-before.ensures.value (flat_map escape t) (rest_of c.args.word.now c.in-Some.rest.now t c.in-Some.ensures.value is))) }

pub returns-in_default-2 : goal.returns-in_default-2
returns-in_default-2 c = record {
  ok =
      sym (read_none _ _ _ _ text_exact c.args.word.now (λ t scalars is.
      no_text (encode_utf8_all t) _ (sym (rw c.in_default-2.is at c.in_ok-bytes.ensures))
      (body_of c.args.word.now c.in-Some.rest.now c.in-Some-before.body.now t c.in-Some.ensures.value c.in-Some-before.ensures.value is)));
}

pub returns-in-Ok : goal.returns-in-Ok
returns-in-Ok c = record {
  ok =
      let utf8 = IsUtf8-string_bytes c.in-Ok.text in
      rw c.from_string.ensures.value
      (sym (read_is _ _ _ _ text_exact c.args.word.now (chars (string_bytes c.in-Ok.text))
      (scalars-chars (string_bytes c.in-Ok.text) utf8)
      (quoted_of c.args.word.now c.in-Some.rest.now c.in-Some-before.body.now (string_bytes c.in-Ok.text) c.in-Some.ensures.value c.in-Some-before.ensures.value utf8
      (sym (rw c.in-Some-2.is at c.in_ok-bytes.ensures) ∙ ap (λ (v : Vec ℕ Global). Some v.items) (sym c.in-Ok.ensures.ok)))));
}

pub returns : goal.returns
returns c = record {
  ok =
      sym (read_none _ _ _ _ text_exact c.args.word.now (λ t scalars is.
      let same = same_text c.in-Some-2.bytes.items (encode_utf8_all t) _ (sym (rw c.in-Some-2.is at c.in_ok-bytes.ensures))
      (body_of c.args.word.now c.in-Some.rest.now c.in-Some-before.body.now t c.in-Some.ensures.value c.in-Some-before.ensures.value is) in
      let no : false ≡ true = c.in-Err.ensures.succeeds (t, (scalars, sym same)) in cc));
}
