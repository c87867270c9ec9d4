-- The sessions of one document, beside those of others.
use Rattle.std.proofs.Common.{◌≡◌, ◌∙◌, ℕ, ◌==◌, Bool, true, false, List, [], ◌∷◌, Option, Some, None, inl, inr, refl, ap, sym, subst, cond, find, filter, ◌||◌, if◌then◌else◌, arith}
use Rattle.sporc_docs.proofs.Common.{list_any, bytes_eq-Decides, OrderModel, ToServer, Hello, is_of, list_of, Event, Machine, at_first, bound_by, bound_with, is_later, Asked, behind, asked_of}
use Rattle.sporc_docs.proofs.Common.{asked_by, asked_at, after_event, answers_of, answers_to, bound_in, is_document, is_bound_to, IsIsolated, Genesis}
use Rattle.std.proofs.lemmas.Bool.{cases_Bool}
use Rattle.std.specs.Str.{bytes_eq}
use Rattle.sporc_order.specs.Sessions.{step_of}
use Rattle.sporc_serve.proofs.Logs.{step_genesis}

-- ---- one list

-- a list keeps its document
is_of-step : (d : List ℕ) (o : OrderModel) (g : Bool) (m : ToServer) → is_of d (step_of o g m).order ≡ is_of d o
is_of-step d o g m = ap (λ (x : Genesis). bytes_eq d x.document) (step_genesis o g m)

-- what is held stays held, and nothing more is
held_same : (os : List OrderModel) (d : List ℕ) (g : Bool) (m : ToServer) (e : List ℕ)
    → list_any (is_of e) (asked_of os d g m).orders ≡ list_any (is_of e) os
held_same [] d g m e = refl
held_same (o ∷ os) d g m e = elim (cases_Bool (is_of d o)) [
  | inl is ↦ rw is (ap (λ (b : Bool). b || list_any (is_of e) os) (is_of-step e o g m))
  | inr is ↦ rw is (ap (λ (b : Bool). is_of e o || b) (held_same os d g m e))
]

-- the list of a document is of it
found_is : (d : List ℕ) (os : List OrderModel) (o : OrderModel) → list_of os d ≡ Some o → is_of d o ≡ true
found_is d [] o h = absurd cc
found_is d (x ∷ os) o h = elim (cases_Bool (is_of d x)) [
  | inl is ↦ let same : x ≡ o = cc (rw is at h) in rw (← same) is
  | inr is ↦ found_is d os o (rw is at h)
]

-- a list that is asked answers as alone, and is then what it is alone
pub asked_there : (d : List ℕ) (os : List OrderModel) (o : OrderModel) (g : Bool) (m : ToServer) → list_of os d ≡ Some o
    → ((asked_of os d g m).answer ≡ (step_of o g m).answer) × (list_of (asked_of os d g m).orders d ≡ Some (step_of o g m).order)
asked_there d [] o g m h = absurd cc
asked_there d (x ∷ os) o g m h = elim (cases_Bool (is_of d x)) [
  | inl is ↦
      let same : x ≡ o = cc (rw is at h) in
      rw (← same) (rw is (refl, ap (λ (b : Bool). cond b (Some (step_of x g m).order) (find (is_of d) os)) (is_of-step d x g m ∙ is)))
  | inr is ↦ rw (is, is) (asked_there d os o g m (rw is at h))
]

-- a list of another document stays
pub asked_elsewhere : (d other : List ℕ) (os : List OrderModel) (g : Bool) (m : ToServer) → bytes_eq d other ≡ false
    → list_of (asked_of os other g m).orders d ≡ list_of os d
asked_elsewhere d other [] g m apart = refl
asked_elsewhere d other (x ∷ os) g m apart = elim (cases_Bool (is_of other x)) [
  | inl is ↦
      let not_here : is_of d x ≡ false = rw (← ((bytes_eq-Decides other x.genesis.document).0 is)) apart in
      rw (is, not_here) (ap (λ (b : Bool). cond b (Some (step_of x g m).order) (find (is_of d) os)) (is_of-step d x g m ∙ not_here))
  | inr is ↦ rw is (ap (λ (l : Option OrderModel). cond (is_of d x) (Some x) l) (asked_elsewhere d other os g m apart))
]

-- ---- what a session is bound to

bound_by-event : (s : Machine) (e : Event) (m : ToServer) → bound_by (asked_at s e).orders m ≡ bound_by s.orders m
bound_by-event s e (Hello d member) =
    elim (bound_with s.orders (s.bound e.session) e.message)
    as (λ b. (if list_any (is_of d) (asked_by s.orders b (is_later (s.bound e.session)) e.message).orders then Some d else None) ≡ bound_by s.orders (Hello d member)) [
      | None ↦ refl
      | Some other ↦ ap (λ (b : Bool). if b then Some d else None) (held_same s.orders other (is_later (s.bound e.session)) e.message d)
    ]
bound_by-event s e m = refl

bound_in-same : (os os' : List OrderModel) (b : Option (Option (List ℕ))) (es : List Event) (t : ℕ) → ((m : ToServer) → bound_by os' m ≡ bound_by os m)
    → bound_in os' b es t ≡ bound_in os b es t
bound_in-same os os' None (e ∷ es) t same = elim (cases_Bool (t == e.session)) [
  | inl is ↦ rw is (same e.message)
  | inr is ↦ rw is (bound_in-same os os' None es t same)
]
bound_in-same os os' b es t same = refl

-- what the event's session is bound to
bound_here : (os : List OrderModel) (b : Option (Option (List ℕ))) (e : Event) (es : List Event) → bound_in os b (e ∷ es) e.session ≡ bound_with os b e.message
bound_here os (Some b) e es = refl
bound_here os None e es =
    let same : (e.session == e.session) ≡ true = grind arith in ap (λ (b : Bool). if b then bound_by os e.message else bound_in os None es e.session) same

-- an event does not change what sessions come to be bound to
bound_later : (s : Machine) (e : Event) (es : List Event) (t : ℕ) → bound_in (after_event s e).orders ((after_event s e).bound t) es t ≡ bound_in s.orders (s.bound t) (e ∷ es) t
bound_later s e es t =
    bound_in-same s.orders (asked_at s e).orders ((after_event s e).bound t) es t (bound_by-event s e) ∙ go (t == e.session) refl (s.bound t) refl
  where
    go : (b : Bool) → (t == e.session) ≡ b → (c : Option (Option (List ℕ))) → s.bound t ≡ c
        → bound_in s.orders (if b then Some (bound_with s.orders (s.bound e.session) e.message) else c) es t ≡ bound_in s.orders c (e ∷ es) t
    go true is c at =
        let same : t ≡ e.session = grind (arith, is) in
        ap (λ (u : ℕ). bound_with s.orders (s.bound u) e.message) (sym same) ∙ ap (λ (x : Option (Option (List ℕ))). bound_with s.orders x e.message) at
        ∙ sym (bound_here s.orders c e es) ∙ ap (bound_in s.orders c (e ∷ es)) (sym same)
    go false is (Some c) at = refl
    go false is None at = sym (ap (λ (b : Bool). if b then bound_by s.orders e.message else bound_in s.orders None es t) is)

-- ---- all events

module _ (d : List ℕ) (is_one : ℕ → Bool) where
  -- the sessions are those that come to be bound to the document
  abbrev AreOf : Machine → List Event → Type 0
  AreOf s es = (t : ℕ) → is_one t ≡ is_document d (bound_in s.orders (s.bound t) es t)

  are_of_later : (s : Machine) (e : Event) (es : List Event) → AreOf s (e ∷ es) → AreOf (after_event s e) es
  are_of_later s e es are t = are t ∙ ap (is_document d) (sym (bound_later s e es t))

  -- a machine holds the document alone, with the same list, and knows as much of its sessions
  record IsAlone (s a : Machine) (o : OrderModel) : Type 0 where
    there : list_of s.orders d ≡ Some o
    alone : a.orders ≡ o ∷ []
    bound : (t : ℕ) → is_one t ≡ true → a.bound t ≡ s.bound t

  is_document-is : (b : Option (List ℕ)) → is_document d b ≡ true → b ≡ Some d
  is_document-is None is = absurd cc
  is_document-is (Some other) is = ap (λ (x : List ℕ). Some x) (sym ((bytes_eq-Decides d other).0 is))

  bound_alone : (os : List OrderModel) (o : OrderModel) (b : Option (Option (List ℕ))) (m : ToServer) → is_of d o ≡ true → bound_with os b m ≡ Some d
      → bound_with (o ∷ []) b m ≡ Some d
  bound_alone os o None (Hello e member) is bound = elim (cases_Bool (list_any (is_of e) os)) [
    | inl held ↦ let same : e ≡ d = cc (rw held at bound) in rw (same, is)
    | inr none ↦ let clash = rw none at bound in absurd cc
  ]
  bound_alone os o b m is bound = bound

  module _ (s a : Machine) (e : Event) (o : OrderModel) (is : IsAlone s a o) where
    abbrev here : Bool
    here = is_later (s.bound e.session)

    -- an event of the document's is answered alike
    alike : is_of d o ≡ true → is_one e.session ≡ true → bound_with s.orders (s.bound e.session) e.message ≡ Some d
        → ((asked_at s e).answer ≡ (asked_at a e).answer) × IsAlone (after_event s e) (after_event a e) (step_of o here e.message).order
    alike is_it one bound =
        let known : a.bound e.session ≡ s.bound e.session = is.bound e.session one in
        let bound' : bound_with a.orders (a.bound e.session) e.message ≡ Some d =
        subst (λ (os : List OrderModel). bound_with os (a.bound e.session) e.message ≡ Some d) (sym is.alone)
        (subst (λ (b : Option (Option (List ℕ))). bound_with (o ∷ []) b e.message ≡ Some d) (sym known) (bound_alone s.orders o (s.bound e.session) e.message is_it bound)) in
        let whole : asked_at s e ≡ asked_of s.orders d here e.message = ap (λ (b : Option (List ℕ)). asked_by s.orders b here e.message) bound in
        let whole' : asked_at a e ≡ asked_of (o ∷ []) d here e.message =
        ap (λ (b : Option (List ℕ)). asked_by a.orders b (is_later (a.bound e.session)) e.message) bound'
        ∙ ap (λ (b : Option (Option (List ℕ))). asked_of a.orders d (is_later b) e.message) known
        ∙ ap (λ (os : List OrderModel). asked_of os d here e.message) is.alone in
        let alone : asked_of (o ∷ []) d here e.message ≡ record { answer = (step_of o here e.message).answer; orders = (step_of o here e.message).order ∷ [] } =
        ap (λ (b : Bool). if b then record { answer = (step_of o here e.message).answer; orders = (step_of o here e.message).order ∷ [] }
        else behind o (asked_of [] d here e.message)) is_it in
        let both = asked_there d s.orders o here e.message is.there in (
          ap (λ (x : Asked). x.answer) whole ∙ both.0 ∙ sym (ap (λ (x : Asked). x.answer) (whole' ∙ alone)),
          record {
            there = ap (λ (x : Asked). list_of x.orders d) whole ∙ both.1;
            alone = ap (λ (x : Asked). x.orders) (whole' ∙ alone);
            bound = λ t one_t. go (t == e.session) (is.bound t one_t) (bound' ∙ sym bound);
          },
        )
      where
        go : (b : Bool) → {x y : Option (Option (List ℕ))} → x ≡ y → bound_with a.orders (a.bound e.session) e.message ≡ bound_with s.orders (s.bound e.session) e.message
            → (if b then Some (bound_with a.orders (a.bound e.session) e.message) else x) ≡ (if b then Some (bound_with s.orders (s.bound e.session) e.message) else y)
        go true same bounds = ap (λ (b : Option (List ℕ)). Some b) bounds
        go false same bounds = same

    -- an event of another's leaves the document's list
    apart : is_one e.session ≡ false → is_document d (bound_with s.orders (s.bound e.session) e.message) ≡ false → IsAlone (after_event s e) a o
    apart not_one other = record {
      there = go (bound_with s.orders (s.bound e.session) e.message) other;
      alone = is.alone;
      bound = λ t one. is.bound t one ∙ sym (kept t one (t == e.session) refl);
    }
      where
        go : (b : Option (List ℕ)) → is_document d b ≡ false → list_of (asked_by s.orders b here e.message).orders d ≡ Some o
        go None not_it = is.there
        go (Some b) not_it = asked_elsewhere d b s.orders here e.message not_it ∙ is.there

        kept : (t : ℕ) → is_one t ≡ true → (b : Bool) → (t == e.session) ≡ b
            → (if b then Some (bound_with s.orders (s.bound e.session) e.message) else s.bound t) ≡ s.bound t
        kept t one false is_not = refl
        kept t one true is_here =
            let same : t ≡ e.session = grind (arith, is_here) in
            let clash : true ≡ false = sym one ∙ ap is_one same ∙ not_one in absurd cc

  isolated_from : (s a : Machine) (o : OrderModel) (es : List Event) → AreOf s es → is_of d o ≡ true → IsAlone s a o
      → answers_to is_one s es ≡ answers_of a (filter (λ e. is_one e.session) es)
  isolated_from s a o [] are is_it is = refl
  isolated_from s a o (e ∷ es) are is_it is =
      let bound : is_one e.session ≡ is_document d (bound_with s.orders (s.bound e.session) e.message) =
      are e.session ∙ ap (is_document d) (bound_here s.orders (s.bound e.session) e es) in
      let more = λ (x : Machine) (o' : OrderModel). isolated_from (after_event s e) x o' es (are_of_later s e es are) in
      elim (cases_Bool (is_one e.session)) [
        | inl one ↦
            let both = alike s a e o is is_it one (is_document-is (bound_with s.orders (s.bound e.session) e.message) (sym bound ∙ one)) in
            let o' = (step_of o (is_later (s.bound e.session)) e.message).order in
            let later = more (after_event a e) o' (is_of-step d o (is_later (s.bound e.session)) e.message ∙ is_it) both.1 in
            rw one (λ i. both.0 i ∷ later i)
        | inr not_one ↦ rw not_one (more a o is_it (apart s a e o is not_one (sym bound ∙ not_one)))
      ]

pub isolated : IsIsolated
isolated orders d o events there =
    isolated_from d (is_bound_to orders events d) (at_first orders) (at_first (o ∷ [])) o events (λ t. refl) (found_is d orders o there)
    (record { there = there; alone = refl; bound = λ t one. refl })
