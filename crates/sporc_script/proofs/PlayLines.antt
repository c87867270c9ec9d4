-- A play script, line by line.
use Rattle.std.proofs.Common.{◌≡◌, ℕ, true, List, [], ◌∷◌, ◌++◌, Option, Some, None, refl, sym, ap, ◌∙◌, subst, inl, inr, append-nil}
use Rattle.sporc_script.proofs.Common.{Command, Keyword, PlayLine, InRange, Spells, command_of, spelling, Declared, declared_after, declared_by, may_follow, none_declared, IsNext, play_line}
use Rattle.sporc_script.proofs.Common.{IsSkipped, keyword_name, option_to_list, ReadsLine, declared_with}
use Rattle.std.proofs.lemmas.List.Sums.{fold-append}
use Rattle.sporc_script.specs.declared.command.Keyword.TheVariants as keywords
use Rattle.sporc_script.proofs.CommandReaders.{command_begins, command_exact}
use Rattle.sporc_script.proofs.Exact.{read_is}
use Rattle.sporc_script.proofs.ScriptLines.{Found, ReadsPart, bool_cases, is_named, not_skipped, one_spelled, spelled_or_not}

-- ---- one line

pub command_spelled : (line : List ℕ) (c : Command) → Some c ≡ command_of line → Spells line c
command_spelled line c is = command_exact.sound line c (sym is)

pub command_missing : (line : List ℕ) → None ≡ command_of line → (c : Command) → Spells line c → ⊥
command_missing line is c spelled =
    let no : None ≡ Some c = is ∙ read_is Command InRange spelling command_of command_exact line c spelled.0 spelled.1 in cc

pub one_command : (line : List ℕ) (c d : Command) → Spells line c → Spells line d → c ≡ d
one_command line c d first second = one_spelled Command InRange spelling command_of command_exact line c d first second

keyword_named : (k : Keyword) → is_named (keyword_name k) ≡ true
keyword_named k = elim k as (λ k. is_named (keyword_name k) ≡ true) [ keywords.Tree ↦ refl | keywords.Member ↦ refl | keywords.Rogue ↦ refl | keywords.Joiner ↦ refl | keywords.Unpaired ↦ refl | keywords.Edit ↦ refl | keywords.Change ↦ refl | keywords.Discard ↦ refl | keywords.Submit ↦ refl | keywords.Give ↦ refl | keywords.Restart ↦ refl | keywords.Join ↦ refl | keywords.Show ↦ refl | keywords.Members ↦ refl | keywords.Hash ↦ refl | keywords.Journal ↦ refl | keywords.Compare ↦ refl | keywords.Flip ↦ refl | keywords.Cut ↦ refl | keywords.Sign ↦ refl | keywords.Device ↦ refl ]

pub one_next : (before : List PlayLine) (line : List ℕ) (c d : Command) → IsNext before line c → IsNext before line d → c ≡ d
one_next before line c d first second = one_command line c d first.0 second.0

pub next_not_skipped : (before : List PlayLine) (line : List ℕ) (c : Command) → IsSkipped line → IsNext before line c → ⊥
next_not_skipped before line c skipped next =
    let begins = command_begins c next.0.0 in
    not_skipped line (keyword_name begins.word) (32 ∷ begins.rest) (keyword_named begins.word) (next.0.1 ∙ begins.spelled) skipped

pub next_or_none : (before : List PlayLine) (line : List ℕ) → Found Command (λ c. IsNext before line c)
next_or_none before line =
    elim (spelled_or_not Command InRange spelling command_of command_exact line) [
      | inl c ↦ elim (bool_cases (may_follow (declared_by before) c.0)) [
        | inl may ↦ inl (c.0, (c.1, may))
        | inr other ↦ inr (λ d is.
            let same = one_command line d c.0 is.0 c.1 in
            let both : true ≡ may_follow (declared_by before) c.0 = sym is.1 ∙ ap (may_follow (declared_by before)) same in cc (both ∙ other))
      ]
      | inr none ↦ inr (λ d is. none d is.0)
    ]

-- ---- what is declared

declared_by-append : (before : List PlayLine) (l : PlayLine) → declared_by (before ++ l ∷ []) ≡ declared_after (declared_by before) l.command
declared_by-append before l = fold-append (λ (d : Declared) (x : PlayLine). declared_after d x.command) none_declared before (l ∷ [])

pub declared_kept : (before : List PlayLine) (declared : Declared) (read : Option PlayLine) → declared ≡ declared_by before → declared_with declared read ≡ declared_by (before ++ option_to_list read)
declared_kept before declared None is = is ∙ ap declared_by (sym (append-nil before))
declared_kept before declared (Some l) is = ap (λ (d : Declared). declared_after d l.command) is ∙ sym (declared_by-append before l)

pub part_of : (before : List PlayLine) (declared : Declared) (n : ℕ) (line : List ℕ) (read : Option PlayLine) → declared ≡ declared_by before
    → ReadsLine declared n line read → ReadsPart Command PlayLine play_line IsNext before n line read
part_of before declared n line None is reads = reads
part_of before declared n line (Some x) is reads =
    (x.command, ap (λ (k : ℕ). play_line k x.command) reads.0, (reads.1, subst (λ (d : Declared). may_follow d x.command ≡ true) is reads.2))
