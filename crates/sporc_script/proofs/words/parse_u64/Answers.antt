use Rattle.std.proofs.Common.{◌≡◌, ℕ, List, true, false, sym, subst, ◌∙◌}
use Rattle.sporc_script.proofs.Common.{ParsesUnsigned, IsPlain}
use Rattle.sporc_script.proofs.Numerals.{decimal_plain, number_from_parse, no_number_from_parse, decimal_utf8}
use Rattle.sporc_script.proofs.Exact.{read_is, read_none}
use Rattle.sporc_script.proofs.TextWords.{number_exact}
use Rattle.sporc_script.proofs.words.parse_u64.Goals as goal

pub returns-then-not-is_plain : goal.returns-then-not-is_plain
returns-then-not-is_plain c = record {
  value =
      sym (read_none _ _ _ _ number_exact c.args.word.now (λ n fits spelled.
      let yes : c.is_plain.result ≡ true = c.is_plain.ensures.1 (subst IsPlain (sym spelled) (decimal_plain n fits)) in
      let no : true ≡ false = sym yes ∙ c.if-not-is_plain.true in cc));
}

pub returns-in_default : goal.returns-in_default
returns-in_default c = record { value = sym (read_none _ _ _ _ number_exact c.args.word.now (λ n fits spelled. c.in_default.ensures.cases.0 (decimal_utf8 c.args.word.now n fits spelled))) }

pub returns-in-Ok-parse : goal.returns-in-Ok-parse
returns-in-Ok-parse c = record {
  value =
      let got = number_from_parse _ c.args.word.now c.in-Ok-parse.n c.parse.result c.in-Ok-parse.is (c.is_plain.ensures.0 c.if-not-is_plain.false)
      (subst (λ (bs : List ℕ). ParsesUnsigned 64 10 bs c.parse.result) c.in-Ok.ensures.cases.0 c.parse.ensures.value.0) in
      sym (read_is _ _ _ _ number_exact c.args.word.now c.in-Ok-parse.n got.0 got.1);
}

pub returns-in-Err : goal.returns-in-Err
returns-in-Err c = record {
  value =
      sym (read_none _ _ _ _ number_exact c.args.word.now (λ n fits spelled.
      no_number_from_parse _ c.args.word.now _ c.parse.result c.in-Err.is
      (subst (λ (bs : List ℕ). ParsesUnsigned 64 10 bs c.parse.result) c.in-Ok.ensures.cases.0 c.parse.ensures.value.0) n fits spelled));
}
