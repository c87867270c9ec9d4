-- Counts, and what stays told.
use Rattle.std.proofs.Common.{◌≡◌, ℕ, ◌+◌, ◌-◌, ◌^◌, ◌<◌, ◌≤◌, Option, Some, None, refl, sym, ap, ◌∙◌, subst, arith}
use Rattle.sporc_clients.proofs.Common.{Rose, count_of_both, IsPositive}
use Rattle.std.specs.Option.{option_map}

-- a count of links that fits a u64 does not fall as a link is taken back
pub both_kept : (old more new : ℕ) → old < 2 ^ 64 → count_of_both old more ≤ new → old ≤ new
both_kept old more new fits is = omega (arith, fits, is)

-- and it rises if that of the link rose from 0
pub both_rose : (old more new : ℕ) → Rose 0 more → count_of_both old more ≤ new → Rose old new
both_rose old more new rose is = omega (arith, rose, is)

-- one more, and one less
abbrev one_less : Option ℕ → Option ℕ
one_less n = option_map (λ n. n - 1) n

less_again : (n : Option ℕ) → one_less (option_map (λ n. n + 1) n) ≡ n
less_again None = refl
less_again (Some n) = ap (λ (m : ℕ). Some m) (omega arith)

-- as many links are out as before
pub as_many : (a b c : Option ℕ) → b ≡ option_map (λ n. n + 1) a → b ≡ option_map (λ n. n + 1) c → c ≡ a
as_many a b c more again = sym (less_again c) ∙ ap one_less (sym again ∙ more) ∙ less_again a

-- one link more is out, so there is one
pub one_is_out : (a b : Option ℕ) → b ≡ option_map (λ n. n + 1) a → IsPositive b
one_is_out None b more = subst IsPositive (sym more) tt
one_is_out (Some n) b more = subst IsPositive (sym more) (omega arith)
