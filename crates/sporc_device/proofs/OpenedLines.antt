-- A member's line, from what its parts answered.
use Rattle.std.proofs.Common.{◌≡◌, ℕ, List, [], Some, None, sym, subst}
use Rattle.sporc_device.proofs.Common.{Result, Ok, Err, IfErr, IfOk, NetTold, Use, Fault, IsFetchAt, Begin, HasEntries, NotOpened, Opens, founds, joins, kit_from, no_kit, LineModel}
use Rattle.sporc_files.specs.Faults.{AnswersUnlessOutside}

module _ (begin : Begin) (net : Use NetTold) where
  -- a founder needs no entries
  pub founder : {key : List ℕ} (entries : List (List ℕ)) → begin.ring.epoch_key ≡ Some key → net.after ≡ net.before → entries ≡ [] → HasEntries begin net entries
  founder entries has same none = founds has same none

  -- a joiner has those that were fetched, under another word
  pub joiner : (entries fetched : List (List ℕ)) → begin.ring.epoch_key ≡ None → entries ≡ fetched
      → IsFetchAt begin.address begin.genesis.document begin.device.member net (Ok fetched) → HasEntries begin net entries
  joiner entries fetched none same fetch = joins none
      (subst (λ (es : List (List ℕ)). IsFetchAt begin.address begin.genesis.document begin.device.member net (Ok es)) (sym same) fetch)

  -- the line was opened by them, or it was not
  pub opened_by : (entries : List (List ℕ)) → HasEntries begin net entries → (result : Result LineModel Fault)
      → AnswersUnlessOutside (λ line. line.kit) ⊥ result (kit_from begin entries) → IfOk result (λ line. Opens begin net line.kit)
  opened_by entries has (Ok line) is = record { entries = entries; has = has; gives = is }
  opened_by entries has (Err fault) tells = tt

  pub not_opened_by : (entries : List (List ℕ)) → HasEntries begin net entries → (result : Result LineModel Fault)
      → AnswersUnlessOutside (λ line. line.kit) ⊥ result (kit_from begin entries) → IfErr result (NotOpened begin net)
  not_opened_by entries has (Ok line) is = tt
  not_opened_by entries has (Err fault) tells = no_kit has tells
