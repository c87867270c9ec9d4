use Rattle.std.proofs.Common.{◌≡◌, ◌≤◌, ℕ, List, length, take, ap, ◌∙◌, arith, subst, Bor, Option}
use Rattle.sporc_hash.specs.Chain.{link_value}
use Rattle.sporc_head.proofs.Common.{Genesis, IfSome, take_all, next_value, hash_of}
use Rattle.sporc_head.specs.Examined.{IsExact}
use Rattle.sporc_head.specs.declared.examined.Verdict.{Verdict}
use Rattle.sporc_head.proofs.heads.Heads.hash_after.Goals as goal

-- the value after so many entries is that after all of them
after_all : (g : Genesis) (entries : List (List ℕ)) (value : List ℕ) (n : ℕ) → value ≡ hash_of g (take n entries) → n ≡ length entries → value ≡ hash_of g entries
after_all g entries value n is all =
    let whole : length entries ≤ length entries = omega arith in
    is ∙ ap (λ (i : ℕ). hash_of g (take i entries)) all ∙ ap (hash_of g) (take_all (length entries) entries whole)

pub returns-in-Some : goal.returns-in-Some
returns-in-Some c =
    let heads = c.args.self.now in
    let last = after_all heads.genesis heads.entries c.hash_at-before.result c.len.result c.hash_at-before.ensures.value c.len.ensures.value in
    let P : Option (Bor Verdict) → Type 0 = λ o. IfSome o (λ v. IsExact v.now c.args.bytes.now) in
    let exact : IsExact c.in-Some.verdict.now c.args.bytes.now = subst P c.in-Some.is c.requires.exact in
    record { value = c.link_hash.ensures.value ∙ ap (λ (v : List ℕ). link_value v c.in-Some.verdict.now.digest) last ∙ ap (link_value (hash_of heads.genesis heads.entries)) exact.digest }

pub returns-in-None : goal.returns-in-None
returns-in-None c =
    let heads = c.args.self.now in
    let last = after_all heads.genesis heads.entries c.hash_at-before.result c.len.result c.hash_at-before.ensures.value c.len.ensures.value in
    record { value = c.next_hash.ensures.value ∙ ap (λ (v : List ℕ). next_value v c.args.bytes.now) last }
