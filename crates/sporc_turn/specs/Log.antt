-- The log of a lock's value as a list of items, and what one pass may rely on of it.
use Rattle.std.specs.Prelude.{◌≡◌, ◌≢◌, ◌==◌, ℕ, ◌≤◌, cond, leb, List, ◌++◌, length, drop, All}
use Rattle.std.specs.Prelude.{Contains}
use Rattle.std.specs.List.{filter}
use Rattle.sporc_base.specs.Lists.{StartsWith}
use Rattle.sporc_turn.specs.declared.known.Known.{Known}
use Rattle.sporc_turn.specs.declared.known.Joined.{Joined}

-- the longer of two lists, and the other one
abbrev pub longer : {A : Type 0} → List A → List A → List A
longer xs ys = cond (leb (length ys) (length xs)) xs ys

abbrev pub shorter : {A : Type 0} → List A → List A → List A
shorter xs ys = cond (leb (length ys) (length xs)) ys xs

-- a pass with this number was joined
abbrev pub HasNumber : {E : Type 0} → List (Joined E) → ℕ → Type 0
HasNumber {E} joined n = (j : Joined E) × Contains joined j × (j.number ≡ n)

module _ {E : Type 0} (by : E → ℕ) where
  -- the items that were added after the start by the pass with this number
  abbrev pub own : ℕ → ℕ → List E → List E
  own number start log = filter (λ e. by e == number) (drop start log)

  -- the log is what the pass has seen, and then items of this pass alone
  pub record Extends (k : Known E) (log : List E) : Type 0 where
    pub more : List E
    pub log_is : log ≡ k.seen ++ more
    pub by_this : All (λ e. by e ≡ k.number) more

  -- The log agrees with what the pass knows: it begins with what the pass has seen, and has the
  -- pass's own items, in order, and no others with its number. To number 0 it also has the items of
  -- each pass that was joined and no others with that number, and no number beyond the last split;
  -- and where all passes are joined back, each number up to the last split but 0 is of one of them.
  pub record Agrees (k : Known E) (log : List E) : Type 0 where
    pub begins : StartsWith log k.seen
    pub whole : k.start ≤ length k.seen
    pub mine : own k.number k.start log ≡ k.mine
    pub joined : k.number ≡ 0 → All (λ (j : Joined E). own j.number k.start log ≡ j.items) k.joined
    pub numbers : k.number ≡ 0 → All (λ e. by e ≤ k.splits) (drop k.start log)
    pub all_back : k.number ≡ 0 → k.splits ≡ length k.joined → (n : ℕ) → n ≢ 0 → n ≤ k.splits
        → HasNumber k.joined n

  -- Once number 0 has joined back all that it split, what is added to the log is its own: of two
  -- logs that agree with what it knows, the longer one goes on with its items alone
  abbrev pub OnlyFirstAdds : Type 0
  OnlyFirstAdds = (k k' : Known E) (log more : List E) → k.number ≡ 0 → k.splits ≡ length k.joined
      → (k'.number ≡ k.number) × (k'.start ≡ k.start) × (k'.splits ≡ k.splits)
      × (k'.joined ≡ k.joined) → Agrees k log → Agrees k' (log ++ more) → All (λ e. by e ≡ 0) more
