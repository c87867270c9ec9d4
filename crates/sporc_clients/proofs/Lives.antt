-- A run over a leaf file is a life of it.
use Rattle.std.proofs.Common.{◌≡◌, ℕ, ◌+◌, ◌*◌, ◌<◌, ◌≤◌, List, [], ◌∷◌, map, IfSome, IsSome, All, AllPairs, ap, sym, subst, arith}
use Rattle.sporc_clients.proofs.Common.{Result, ⊤, DiskTold, disk_images, taken_blocks, Rise, leaves_of, Words, Fault, Past, ClientUse, DiskOutcome, not_worked, worked, All-cons, All-nil, All-weaker}
use Rattle.std.proofs.lemmas.List.Kept.{AllPairs-cons}
use Rattle.lms_leaf.specs.Lives.{AreLives, IsLife}
use Rattle.lms_leaf.specs.declared.leaf_file.TheConstants.{LEAVES_PER_BLOCK}
use Rattle.lms_leaf.proofs.LifeLemmas.{leaves_rise, session_is_life}
use Rattle.sporc_device.specs.declared.member_files.MemberFiles.{MemberFiles}
use Rattle.sporc_clients.specs.Lives.{AreRuns, ClientRun, SignOnce, life_of, signed_in}

-- ---- numbers that rise

rise_above : (first end : ℕ) (ns : List ℕ) → Rise first end ns → All (λ n. first ≤ n) ns
rise_above first end [] rise = All-nil (λ n. first ≤ n)
rise_above first end (n ∷ ns) rise =
    All-cons (λ m. first ≤ m) n ns rise.0 (All-weaker (λ m. n + 1 ≤ m) (λ m. first ≤ m) (λ m le. omega (arith, rise.0, le)) ns (rise_above (n + 1) end ns rise.2))

rise_below : (first end : ℕ) (ns : List ℕ) → Rise first end ns → All (λ n. n < end) ns
rise_below first end [] rise = All-nil (λ n. n < end)
rise_below first end (n ∷ ns) rise = All-cons (λ m. m < end) n ns rise.1 (rise_below (n + 1) end ns rise.2)

rise_pairs : (first end : ℕ) (ns : List ℕ) → Rise first end ns → AllPairs (λ a b. a < b) ns
rise_pairs first end [] rise = λ i j d below within. absurd (omega (arith, within))
rise_pairs first end (n ∷ ns) rise =
    AllPairs-cons (λ a b. a < b) n ns (All-weaker (λ m. n + 1 ≤ m) (λ m. n < m) (λ m le. omega (arith, le)) ns (rise_above (n + 1) end ns rise.2))
    (rise_pairs (n + 1) end ns rise.2)

-- ---- a run

module _ {D : Type 0} (disk_told : D → DiskTold)
    (is_image : (disk : D) → IfSome (disk_told disk).stored (disk_images (disk_told disk))) where
  pub run_is_life : (words : Words) (m : MemberFiles) (did : ClientUse) (first last : D) (answer : Result ⊤ Fault)
      (outcome : DiskOutcome disk_told words m did first last answer) → IsSome (disk_told first).stored
      → IsLife disk_told (record { lent = first; last = last; given = signed_in disk_told words m did outcome })
  run_is_life words m did first last answer (worked w) told =
      let signed = leaves_of w.past.log in
      let same : w.past.first_leaf ≡ w.leaves.next = ap (λ (p : Past). p.first_leaf) w.attended.work.session.goes_on in
      let from : IfSome (disk_told first).stored (λ bytes. w.past.first_leaf ≡ LEAVES_PER_BLOCK * taken_blocks bytes) =
      subst (λ (n : ℕ). IfSome (disk_told first).stored (λ bytes. n ≡ LEAVES_PER_BLOCK * taken_blocks bytes)) (sym same) w.ready.opened.next in
      session_is_life disk_told (record { lent = first; last = last; given = signed }) w.past.first_leaf w.taken.next told (is_image first) from w.taken.forward
      (rise_pairs w.past.first_leaf w.taken.next signed w.taken.rise) (rise_above w.past.first_leaf w.taken.next signed w.taken.rise)
      (rise_below w.past.first_leaf w.taken.next signed w.taken.rise) w.taken.passed
  run_is_life words m did first last answer (not_worked why untouched same kept) told = record {
    rise = λ i j d below within. absurd (omega (arith, within));
    above = λ leaf was. All-nil (λ given. leaf < given);
    passed = λ k d within. absurd (omega (arith, within));
    kept = kept;
  }

  are_lives : (runs : List (ClientRun disk_told)) → AreRuns disk_told runs
      → AreLives disk_told (map (life_of disk_told) runs)
  are_lives [] are = tt
  are_lives (run ∷ runs) are = (run_is_life run.words run.member run.did run.first run.last run.answer run.outcome are.0, are.1, are_lives runs are.2)

  pub sign_once : SignOnce disk_told
  sign_once runs are = leaves_rise disk_told (map (life_of disk_told) runs) (are_lives runs are)
