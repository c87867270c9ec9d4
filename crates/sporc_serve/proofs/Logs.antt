-- Logs of a server, and what a message adds to one.
use Rattle.std.proofs.Common.{◌≡◌, ℕ, suc, ◌+◌, ◌<◌, ◌≤◌, Bool, true, false, List, [], ◌∷◌, ◌++◌, length, Some, None, refl, ap, sym, ◌∙◌, inl, inr, ◌⊎◌, arith, append-nil, length-append, if◌then◌else◌, bytes_eq}
use Rattle.sporc_serve.proofs.Common.{Genesis, ToServer, Hello, Submit, OrderModel, Silent, Close, step_of, submitted, only, Item, Opened, Placed, entries_in, placed, log_of, placed_by}
use Rattle.sporc_serve.proofs.Common.{unless_refused, added_of, IsLogOf, head_fault}

pub placed_length : (ns : List ℕ) (es : List (List ℕ)) → length ns ≡ length es → length (placed ns es) ≡ length es
placed_length [] [] same = refl
placed_length (n ∷ ns) (e ∷ es) same = ap suc (placed_length ns es (omega (arith, same)))
placed_length ns es same = absurd (omega (arith, same))

pub entries_in-placed : (ns : List ℕ) (es : List (List ℕ)) → length ns ≡ length es → entries_in (placed ns es) ≡ es
entries_in-placed [] [] same = refl
entries_in-placed (n ∷ ns) (e ∷ es) same = ap (λ (l : List (List ℕ)). e ∷ l) (entries_in-placed ns es (omega (arith, same)))
entries_in-placed ns es same = absurd (omega (arith, same))

pub placed-append : (ns : List ℕ) (es : List (List ℕ)) (n : ℕ) (e : List ℕ) → length ns ≡ length es
    → placed (ns ++ n ∷ []) (es ++ e ∷ []) ≡ placed ns es ++ Placed n e ∷ []
placed-append [] [] n e same = refl
placed-append (m ∷ ms) (f ∷ fs) n e same = ap (λ (l : List Item). Placed m f ∷ l) (placed-append ms fs n e (omega (arith, same)))
placed-append ns es n e same = absurd (omega (arith, same))

-- an order whose log is of a document is that document's, with the log's entries
pub order_is : (g : Genesis) (o : OrderModel) (ns : List ℕ) → length ns ≡ length o.entries → IsLogOf g (log_of o ns)
    → o ≡ record { genesis = g; entries = entries_in (log_of o ns) }
order_is g o ns same begins =
    let whole = begins.1 in
    let first : o.genesis ≡ g = cc in
    λ i. record { genesis = first i; entries = sym (entries_in-placed ns o.entries same) i }

-- ---- what a message adds

-- a message adds an entry, or none
pub added_one : (o : OrderModel) (s : Bool) (m : ToServer) → (added_of o s m ≡ []) ⊎ ((e : List ℕ) × (added_of o s m ≡ e ∷ []))
added_one o true (Submit entry) =
    elim (head_fault o.genesis None o.entries (length o.entries + 1) entry)
    as (λ f. (unless_refused entry f ≡ []) ⊎ ((e : List ℕ) × (unless_refused entry f ≡ e ∷ []))) [ Some r ↦ inl refl | None ↦ inr (entry, refl) ]
added_one o s m = inl refl

-- the order after a message
order_greeted : (o : OrderModel) (document : List ℕ) (member : ℕ) → (step_of o false (Hello document member)).order ≡ o
order_greeted o document member =
    elim (bytes_eq document o.genesis.document) as (λ b. (if b then only o true Silent else only o false Close).order ≡ o) [ true ↦ refl | false ↦ refl ]

pub step_adds : (o : OrderModel) (s : Bool) (m : ToServer) → (step_of o s m).order.entries ≡ o.entries ++ added_of o s m
step_adds o true (Submit entry) =
    elim (head_fault o.genesis None o.entries (length o.entries + 1) entry)
    as (λ f. (submitted o entry f).order.entries ≡ o.entries ++ unless_refused entry f) [ Some r ↦ sym (append-nil o.entries) | None ↦ refl ]
step_adds o false (Hello document member) =
    ap (λ (x : OrderModel). x.entries) (order_greeted o document member) ∙ sym (append-nil o.entries)
step_adds o s m = sym (append-nil o.entries)

pub step_genesis : (o : OrderModel) (s : Bool) (m : ToServer) → (step_of o s m).order.genesis ≡ o.genesis
step_genesis o true (Submit entry) =
    elim (head_fault o.genesis None o.entries (length o.entries + 1) entry) as (λ f. (submitted o entry f).order.genesis ≡ o.genesis) [ Some r ↦ refl | None ↦ refl ]
step_genesis o false (Hello document member) = ap (λ (x : OrderModel). x.genesis) (order_greeted o document member)
step_genesis o s m = refl

-- ---- the log of a desk after a message

log_same : (o o' : OrderModel) (ns ns' : List ℕ) → o'.genesis ≡ o.genesis → o'.entries ≡ o.entries → ns' ≡ ns → log_of o' ns' ≡ log_of o ns
log_same o o' ns ns' genesis entries numbers = λ i. Opened (genesis i) ∷ placed (numbers i) (entries i)

log_more : (o o' : OrderModel) (ns ns' : List ℕ) (n : ℕ) (e : List ℕ) → o'.genesis ≡ o.genesis → o'.entries ≡ o.entries ++ e ∷ [] → ns' ≡ ns ++ n ∷ []
    → length ns ≡ length o.entries → log_of o' ns' ≡ log_of o ns ++ Placed n e ∷ []
log_more o o' ns ns' n e genesis entries numbers same =
    (λ i. Opened (genesis i) ∷ placed (numbers i) (entries i)) ∙ ap (λ (l : List Item). Opened o.genesis ∷ l) (placed-append ns o.entries n e same)

-- a number was added where an entry was
abbrev pub Numbers : List ℕ → List ℕ → ℕ → OrderModel → OrderModel → Type 0
Numbers ns ns' n o o' = ((length o.entries < length o'.entries) × (ns' ≡ ns ++ n ∷ [])) ⊎ ((length o'.entries ≤ length o.entries) × (ns' ≡ ns))

pub log_adds : (o o' : OrderModel) (s : Bool) (m : ToServer) (ns ns' : List ℕ) (n : ℕ) → o' ≡ (step_of o s m).order → length ns ≡ length o.entries
    → Numbers ns ns' n o o' → log_of o' ns' ≡ log_of o ns ++ placed_by n (added_of o s m)
log_adds o o' s m ns ns' n is same numbers =
    let genesis : o'.genesis ≡ o.genesis = ap (λ (x : OrderModel). x.genesis) is ∙ step_genesis o s m in
    let entries : o'.entries ≡ o.entries ++ added_of o s m = ap (λ (x : OrderModel). x.entries) is ∙ step_adds o s m in
    by_added (added_of o s m) (added_one o s m) genesis entries numbers
  where
    by_added : (added : List (List ℕ)) → (added ≡ []) ⊎ ((e : List ℕ) × (added ≡ e ∷ [])) → o'.genesis ≡ o.genesis → o'.entries ≡ o.entries ++ added
        → Numbers ns ns' n o o' → log_of o' ns' ≡ log_of o ns ++ placed_by n added
    by_added added (inl none) genesis entries (inl more) =
        let size : length o'.entries ≡ length o.entries = ap length (entries ∙ ap (λ (l : List (List ℕ)). o.entries ++ l) none ∙ append-nil o.entries) in
        absurd (omega (arith, more.0, size))
    by_added added (inl none) genesis entries (inr kept) =
        log_same o o' ns ns' genesis (entries ∙ ap (λ (l : List (List ℕ)). o.entries ++ l) none ∙ append-nil o.entries) kept.1
        ∙ sym (append-nil (log_of o ns)) ∙ ap (λ (l : List (List ℕ)). log_of o ns ++ placed_by n l) (sym none)
    by_added added (inr one) genesis entries (inl more) =
        log_more o o' ns ns' n one.0 genesis (entries ∙ ap (λ (l : List (List ℕ)). o.entries ++ l) one.1) more.1 same
        ∙ ap (λ (l : List (List ℕ)). log_of o ns ++ placed_by n l) (sym one.1)
    by_added added (inr one) genesis entries (inr kept) =
        let size : length o'.entries ≡ length (o.entries ++ one.0 ∷ []) = ap length (entries ∙ ap (λ (l : List (List ℕ)). o.entries ++ l) one.1) in
        absurd (omega (arith, kept.0, size, length-append o.entries (one.0 ∷ [])))
