-- What a call and the sync behind it do together to what a crash may leave.
use Rattle.std.proofs.Common.{◌≡◌, inl, inr, ℕ, List, ◌++◌, take, Option, Some, None, Result, Ok, Err, refl, sym, ap, ◌∙◌, subst, arith}
use Rattle.sporc_store.proofs.Common.{IfSome, OnOk, option_map, cases_lt, AppendTold, GrowsBy, MayBeCut, FileSteps, file_images, Cuts, Writes, CrashStep, IsSame, use_of}

-- a step, and then another that goes on from it
pub step_then : (a b c : ℕ) (past mid images : ℕ → List ℕ → Type 0) (step next : List ℕ → List ℕ → Type 0) → ((x y z : List ℕ) → step x y → next y z → step x z)
    → CrashStep a b past mid step → CrashStep b c mid images next → CrashStep a c past images step
step_then a b c past mid images step next joins one two = record {
  later = omega (arith, one.later, two.later);
  earlier = λ m image le.
      let inner = one.earlier m image le in
      let outer = two.earlier m image (omega (arith, le, one.later)) in
      (λ h. inner.0 (outer.0 h), λ h. outer.1 (inner.1 h));
  during = λ m image low high h. elim (cases_lt m b) [
    | inl early ↦ one.during m image low (omega (arith, early)) ((two.earlier m image (omega (arith, early))).0 h)
    | inr late ↦
        let got = two.during m image late high h in
        let was = one.during b got.0 one.later (omega arith) got.1 in
        (was.0, was.1, joins was.0 got.0 image was.2 got.2)
  ];
}

module _ {D : Type 0} (file_told : D → AppendTold)
    (is_image : (file : D) → IfSome (file_told file).stored (file_images (file_told file))) where
  -- what a synced file stores is what one before it stored, changed so
  from_stored : (f : List ℕ → List ℕ) (old new : D) → (file_told new).stored ≡ option_map f (file_told old).stored → ((image : List ℕ) → file_images (file_told new) image → (file_told new).stored ≡ Some image)
      → (image : List ℕ) → file_images (file_told new) image → (before : List ℕ) × file_images (file_told old) before × (image ≡ f before)
  from_stored f old new told durable image there = by (file_told old).stored refl (is_image old)
    where
      by : (o : Option (List ℕ)) → (file_told old).stored ≡ o → IfSome (file_told old).stored (file_images (file_told old)) → (before : List ℕ) × file_images (file_told old) before × (image ≡ f before)
      by (Some before) is has =
          let same : Some (f before) ≡ Some image = sym (told ∙ ap (option_map f) is) ∙ durable image there in
          (before, subst (λ (o : Option (List ℕ)). IfSome o (file_images (file_told old))) is has, cc)
      by None is has =
          let clash : None ≡ Some image = sym (told ∙ ap (option_map f) is) ∙ durable image there in
          absurd cc

  -- what a call left, and then a sync that succeeded or failed
  module _ (old mid new : D) (kept : (file_told new).stored ≡ (file_told mid).stored) (same : FileSteps (use_of file_told mid new) IsSame) where
    -- the step is that of both
    synced : (step : List ℕ → List ℕ → Type 0) → FileSteps (use_of file_told old mid) step → FileSteps (use_of file_told old new) step
    synced step did = step_then _ _ _ _ _ _ step IsSame (λ x y z first is. subst (step x) (sym is) first) did same

    -- and the images come of those before it, if the sync was done
    on_ok : {P Q E : Type 0} (result : Result (Unit {0}) E) → (P → Q) → OnOk result P → OnOk result Q
    on_ok (Ok done) gives h = gives h
    on_ok (Err e) gives h = tt

    pub writes_then : {E : Type 0} (bytes : List ℕ) (result : Result (Unit {0}) E) → FileSteps (use_of file_told old mid) (GrowsBy bytes)
        → (file_told mid).stored ≡ option_map (λ l. l ++ bytes) (file_told old).stored → OnOk result ((image : List ℕ) → file_images (file_told new) image → (file_told new).stored ≡ Some image)
        → Writes file_told bytes old new result
    writes_then bytes result step told durable =
        record { step = synced (GrowsBy bytes) step; all = on_ok result (from_stored (λ l. l ++ bytes) old new (kept ∙ told)) durable }

    pub cuts_then : {E : Type 0} (len : ℕ) (result : Result (Unit {0}) E) → FileSteps (use_of file_told old mid) (MayBeCut len)
        → (file_told mid).stored ≡ option_map (λ l. take len l) (file_told old).stored → OnOk result ((image : List ℕ) → file_images (file_told new) image → (file_told new).stored ≡ Some image)
        → Cuts file_told len old new result
    cuts_then len result step told durable =
        record { step = synced (MayBeCut len) step; all = on_ok result (from_stored (λ l. take len l) old new (kept ∙ told)) durable }
