-- A member's line with its saved history, from what its parts answered.
use Rattle.std.proofs.Common.{◌≡◌, ℕ, List, Option, Some, refl, sym, ◌∙◌, subst}
use Rattle.sporc_device.proofs.Common.{Result, Ok, Err, IfErr, IfOk, ⊤, Genesis, Fault, History, Device, NetTold, Use, IsResumed, NotResumed, checked_before, not_loaded}
use Rattle.sporc_device.proofs.Common.{Begin, Opens, File, LineModel}
use Rattle.sporc_line.specs.Kit.{Kit}
use Rattle.sporc_files.specs.declared.fault.Fault.TheVariants as faults
use Rattle.sporc_files.specs.Faults.{AnswersUnlessOutside, unless_stopped, whole}
use Rattle.sporc_store.specs.declared.stop.Stop.{Stop}
use Rattle.sporc_store.specs.declared.stop.Stop.TheVariants.{Cut, End, Foreign, Refused}
use Rattle.sporc_store.specs.Loading.{a_member, loaded}
use Rattle.sporc_store.specs.SavedFile.{Taken, read_to}
use Rattle.sporc_device.specs.Resuming.{entries_by}

-- a history's file is not whole
not_whole_at : (file : File) (entries : List (List ℕ)) (stop : Stop) (fault : Fault) (r : Result LineModel Fault) → unless_stopped {A = ⊤} file stop tt ≡ Err fault → r ≡ Err fault
    → AnswersUnlessOutside (λ line. line.entries) ⊥ r (whole file (read_to entries stop))
not_whole_at file entries End fault r is same = absurd cc
not_whole_at file entries Foreign fault r is same = let e : fault ≡ faults.Malformed file 0 = cc in rw (same, e) refl
not_whole_at file entries (Cut at) fault r is same = let e : fault ≡ faults.Malformed file at = cc in rw (same, e) refl
not_whole_at file entries (Refused position refusal) fault r is same = let e : fault ≡ faults.Refused position refusal = cc in rw (same, e) refl

-- the loading of a saved history stopped before its end
pub stopped_so : (device : Device) (genesis : Genesis) (kit : Kit) (saved : Option (List ℕ)) (bytes : List ℕ) (entries : List (List ℕ)) (stop : Stop) (fault : Fault) (r : Result LineModel Fault)
    → saved ≡ Some bytes → read_to entries stop ≡ loaded (a_member genesis kit) genesis.document bytes → unless_stopped {A = ⊤} (History device) stop tt ≡ Err fault → r ≡ Err fault
    → AnswersUnlessOutside (λ line. line.entries) ⊥ r (entries_by device genesis kit saved)
stopped_so device genesis kit saved bytes entries stop fault r there is stopped same =
    rw there (subst (λ (t : Taken). AnswersUnlessOutside (λ line. line.entries) ⊥ r (whole (History device) t)) is (not_whole_at (History device) entries stop fault r stopped same))

module _ (begin : Begin) (saved : Option (List ℕ)) (net : Use NetTold) where
  module _ (checked : checked_before begin saved ≡ Ok tt) (genesis : Genesis) (kit : Kit) (opens : Opens begin net kit) (same : genesis ≡ begin.genesis) (result : Result LineModel Fault)
      (tells : AnswersUnlessOutside (λ line. line.entries) ⊥ result (entries_by begin.device genesis kit saved)) where
    -- with the document's own genesis
    loaded_of : AnswersUnlessOutside (λ line. line.entries) ⊥ result (entries_by begin.device begin.genesis kit saved)
    loaded_of = subst (λ (g : Genesis). AnswersUnlessOutside (λ line. line.entries) ⊥ result (entries_by begin.device g kit saved)) same tells

    -- the history was loaded
    pub resumed : IfOk result (λ line. line.genesis ≡ genesis) → IfOk result (λ line. line.kit ≡ kit) → IfOk result (IsResumed begin saved net)
    resumed of_document of_kit = resumed_by result of_document of_kit loaded_of
      where
        resumed_by : (r : Result LineModel Fault) → IfOk r (λ line. line.genesis ≡ genesis) → IfOk r (λ line. line.kit ≡ kit)
            → AnswersUnlessOutside (λ line. line.entries) ⊥ r (entries_by begin.device begin.genesis kit saved) → IfOk r (IsResumed begin saved net)
        resumed_by (Ok line) g k is = record {
          whole = checked;
          opens = subst (λ (given : Kit). Opens begin net given) (sym k) opens;
          genesis = g ∙ same;
          loaded = subst (λ (given : Kit). entries_by begin.device begin.genesis given saved ≡ Ok line.entries) (sym k) is;
        }
        resumed_by (Err fault) g k why = tt

    -- or it was not
    pub not_resumed_by : IfErr result (NotResumed begin saved net)
    not_resumed_by = by result loaded_of
      where
        by : (r : Result LineModel Fault) → AnswersUnlessOutside (λ line. line.entries) ⊥ r (entries_by begin.device begin.genesis kit saved)
            → IfErr r (NotResumed begin saved net)
        by (Ok line) is = tt
        by (Err fault) why = not_loaded checked opens why

  -- memory ran out behind that
  pub no_client : (line : LineModel) (fault : Fault) → IsResumed begin saved net line → fault ≡ faults.Memory → NotResumed begin saved net fault
  no_client line fault resumed is = rw is (not_loaded resumed.whole resumed.opens tt)
