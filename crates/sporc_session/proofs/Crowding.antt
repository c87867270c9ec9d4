-- A receiver and editors that are joined.
use Rattle.std.proofs.Common.{◌≡◌, ℕ, ◌+◌, List, [], ◌∷◌, length, take, drop, Option, Some, None, Ok, Err, refl, sym, ap, ◌∙◌, subst, arith, inl, inr, ⊎_elim}
use Rattle.sporc_session.proofs.Common.{Result, ⊤, result_and, result_err, nil_from_length, first_of, EditorLine, Known, Agrees, StartsWith, longer, longer_is, ToClient, AcceptFault, SubmitFault}
use Rattle.sporc_session.proofs.Common.{Item, by_of, SessionFault, Act, all_of, items_by, Trace, CountsSame, IsAllowedLog, KnowsMore, Stand, stand, LinesDid, AcceptGives, Cause, IsNoMessage}
use Rattle.sporc_session.proofs.Common.{IsWrongAnswer, SubmitGives, AreLinesDone, LineEnd, IsPoint, Mode, FirstPhase, LinkStand}
use Rattle.lms_leaf.specs.declared.faults.LeafFault.TheVariants as leaves
use Rattle.sporc_turn.specs.declared.known.Joined.{Joined}
use Rattle.sporc_turn.specs.Knowing.{copied, joined_with, splitting}
use Rattle.sporc_session.specs.declared.fault.SessionFault.TheVariants as faults
use Rattle.sporc_session.specs.Crowds.{CrowdDid, EditorPart, IsCrowd}
use Rattle.sporc_session.proofs.Fitting.{fit_all_later}
use Rattle.sporc_session.proofs.Knowing.{client_later, point_later, starts_then}
use Rattle.sporc_session.proofs.Lining.{end_later, lines_later}

-- Number 0 knew k as another pass was split from it, k1 before it joined that pass, and k' afterwards
module _ (k k1 k' : Known Item) (knows : (items : List Item) → KnowsMore (splitting k) k1 items → KnowsMore k k' items)
    (begins : StartsWith k'.seen k1.seen) (same_start : k'.start ≡ k1.start) (same_mine : k'.mine ≡ k1.mine)
    (link0 link : LinkStand) (words0 words : Option (List (List ℕ))) (g0 g : ℕ) where
  abbrev before : Stand
  before = stand (splitting k) link0 words0 g0

  abbrev alone : Stand
  alone = stand k1 link words g

  abbrev first : Stand
  first = stand k link0 words0 g0

  abbrev joined : Stand
  joined = stand k' link words g

  trace_joined : (acts : List Act) (written : List ℕ) (answers : List ToClient) (drawn : List (List ℕ)) → Trace before alone acts written answers drawn → Trace first joined acts written answers drawn
  trace_joined acts written answers drawn c = record {
    knows = knows (all_of items_by acts) c.knows;
    fits = fit_all_later k1.seen k'.seen begins k.start k.mine acts c.fits;
    in_order = c.in_order;
    link = c.link;
    words_are = c.words_are;
    chance = c.chance;
  }

  point_joined : (point : ℕ) → IsPoint k1.seen k1.start 0 k1.mine point → IsPoint k'.seen k'.start 0 k'.mine point
  point_joined point p = subst (λ (z : ℕ × List Item). IsPoint k'.seen z.0 0 z.1 point) (λ i. (sym same_start i, sym same_mine i)) (point_later k1.seen k'.seen k1.start 0 k1.mine point begins p)

  accept_joined : (position : ℕ) (entry : List ℕ) (fault : AcceptFault) → AcceptGives k1 position entry fault → AcceptGives k' position entry fault
  accept_joined position entry fault h = record {
    point = h.point;
    client = h.client;
    is_point = point_joined h.point h.is_point;
    is_client = client_later k1.seen k'.seen h.point h.client begins h.is_point.within h.is_client;
    gives = h.gives;
  }

  submit_joined : (drawn : List (List ℕ)) (fault : SubmitFault) → SubmitGives k1 drawn fault → SubmitGives k' drawn fault
  submit_joined drawn fault h = record {
    point = h.point;
    client = h.client;
    first = h.first;
    second = h.second;
    leaf = h.leaf;
    is_point = point_joined h.point h.is_point;
    is_client = client_later k1.seen k'.seen h.point h.client begins h.is_point.within h.is_client;
    may = h.may;
    drawn_are = h.drawn_are;
    gives = h.gives;
  }

  wrong_joined : (m : Mode) (written : List ℕ) (answers : List ToClient) (place : ℕ) → IsWrongAnswer alone m written answers place → IsWrongAnswer joined m written answers place
  wrong_joined m written answers place w = record { message = w.message; answer = w.answer; due = w.due; sent = w.sent; came = w.came; wrong = w.wrong; starts = w.starts }

  no_message_joined : (m : Mode) (written : List ℕ) (answers : List ToClient) (place : ℕ) → IsNoMessage alone m written answers place → IsNoMessage joined m written answers place
  no_message_joined m written answers place w = record { due = w.due; sent = w.sent; came = w.came; frame = w.frame }

  cause_joined : (m : Mode) (written : List ℕ) (answers : List ToClient) (drawn : List (List ℕ)) (fault : SessionFault) → Cause before alone m written answers drawn fault → Cause first joined m written answers drawn fault
  cause_joined m written answers drawn (faults.BadMessage place) h = ⊎_elim (λ x. inl (wrong_joined m written answers place x)) (λ x. inr (no_message_joined m written answers place x)) h
  cause_joined m written answers drawn (faults.Refused position refusal) h = (h.0, h.1, accept_joined position h.0 _ h.2)
  cause_joined m written answers drawn faults.JournalFull h = ⊎_elim (λ x. inl (x.0, x.1, x.2, accept_joined x.0 x.1 _ x.3)) (λ x. inr (x.0, submit_joined drawn _ x.1)) h
  cause_joined m written answers drawn faults.HistoryFull h = (h.0, submit_joined drawn _ h.1)
  cause_joined m written answers drawn (faults.Leaf (leaves.Exhausted next)) h = (h.0, submit_joined drawn _ h.1)
  cause_joined m written answers drawn (faults.Leaf leaves.DiskFault) h = (h.0, submit_joined drawn _ h.1)
  cause_joined m written answers drawn _ h = h

  phase_joined : (rounds : ℕ) (fault : Option SessionFault) → FirstPhase before alone rounds fault → FirstPhase first joined rounds fault
  phase_joined rounds None d = record { acts = d.acts; trace = trace_joined d.acts [] [] [] d.trace; leads = d.leads }
  phase_joined rounds (Some fault) d = record {
    acts = d.acts;
    reached = d.reached;
    written = d.written;
    answers = d.answers;
    words = d.words;
    trace = trace_joined d.acts d.written d.answers d.words d.trace;
    leads = d.leads;
    within = d.within;
    beside = d.beside;
    cause = cause_joined d.reached d.written d.answers d.words fault d.cause;
  }

part_later : (log log' : List Item) (s : StartsWith log' log) (start number : ℕ) (lines : List EditorLine) (items : List Item) (end : Option SessionFault) → EditorPart log start number lines items end → EditorPart log' start number lines items end
part_later log log' s start number lines items end p = record {
  count = p.count;
  done = lines_later log log' s start number [] (take p.count lines) items p.done;
  ended = end_later log log' s start number items (drop p.count lines) end p.ended;
}

pub crowd_later : (log log' : List Item) (s : StartsWith log' log) (start number : ℕ) (scripts : List (List EditorLine)) (ends : List (Option SessionFault)) (js : List (Joined Item)) → CrowdDid log start number scripts ends js → CrowdDid log' start number scripts ends js
crowd_later log log' s start number [] ends js d = d
crowd_later log log' s start number (script ∷ scripts) [] js d = absurd d
crowd_later log log' s start number (script ∷ scripts) (end ∷ ends) [] d = absurd d
crowd_later log log' s start number (script ∷ scripts) (end ∷ ends) (j ∷ js) d = (d.0, part_later log log' s start number script j.items end d.1, crowd_later log log' s start (number + 1) scripts ends js d.2)

-- the first fault of an editor and of those after it
first_and : (end later : Result ⊤ SessionFault) (ends : List (Option SessionFault)) → first_of ends ≡ result_err later → first_of (result_err end ∷ ends) ≡ result_err (result_and end later)
first_and (Ok x) later ends is = is
first_and (Err fault) later ends is = refl

-- no script was left
pub crowd_last : (a b : Stand) (rounds : ℕ) (scripts : List (List EditorLine)) (receiver : Option SessionFault) → length scripts ≡ 0 → FirstPhase a b rounds receiver → CountsSame a.known b.known → IsCrowd a b rounds scripts receiver None
crowd_last a b rounds scripts receiver none phase same =
    subst (λ (ss : List (List EditorLine)). IsCrowd a b rounds ss receiver None) (sym (nil_from_length scripts none)) (record {
      phase = phase;
      ends = [];
      joined = [];
      did = (refl, refl);
      first = refl;
      joined_are = same.joined;
      splits_are = same.splits ∙ omega arith;
    })

-- an editor that was split from number 0, and joined to it after the others
module _ (k k1 k2 k' : Known Item) (link0 link : LinkStand) (words0 words : Option (List (List ℕ))) (g0 g : ℕ)
    (joined_is : k' ≡ joined_with k1 k2) (first : StartsWith k'.seen k1.seen) (other : StartsWith k'.seen k2.seen) (agrees : Agrees by_of k' k'.seen) where
  seen_is : k'.seen ≡ longer k1.seen k2.seen
  seen_is = ap (λ (h : Known Item). h.seen) joined_is

  same_start : k'.start ≡ k1.start
  same_start = ap (λ (h : Known Item). h.start) joined_is

  same_mine : k'.mine ≡ k1.mine
  same_mine = ap (λ (h : Known Item). h.mine) joined_is

  knows_joined : (items' : List Item) → KnowsMore (copied k) k2 items' → (items : List Item) → KnowsMore (splitting k) k1 items → KnowsMore k k' items
  knows_joined items' editor items a = record {
    number = ap (λ (h : Known Item). h.number) joined_is ∙ a.number;
    start = same_start ∙ a.start;
    mine = same_mine ∙ a.mine;
    begins = starts_then k.seen k1.seen k'.seen a.begins first;
    allowed = λ h. subst IsAllowedLog (sym seen_is) (longer_is IsAllowedLog k1.seen k2.seen (a.allowed h) (editor.allowed h));
    agrees = λ _. agrees;
  }

  part_joined : (script : List EditorLine) (fault : Option SessionFault) → LinesDid (copied k) k2 script fault → EditorPart k'.seen k.start (k.splits + 1) script k2.mine fault
  part_joined script fault editor = part_later k2.seen k'.seen other k.start (k.splits + 1) script k2.mine fault (record {
    count = editor.count;
    done = subst (AreLinesDone k2.seen k.start (k.splits + 1) [] (take editor.count script)) (sym editor.first.knows.mine) editor.first.done;
    ended = subst (λ (m : List Item). LineEnd k2.seen k.start (k.splits + 1) m (drop editor.count script) fault) (sym editor.first.knows.mine) editor.end;
  })

  crowd_more : (rounds : ℕ) (script : List EditorLine) (scripts : List (List EditorLine)) (receiver : Option SessionFault) (end later : Result ⊤ SessionFault) → LinesDid (copied k) k2 script (result_err end)
      → IsCrowd (stand (splitting k) link0 words0 g0) (stand k1 link words g) rounds scripts receiver (result_err later)
      → IsCrowd (stand k link0 words0 g0) (stand k' link words g) rounds (script ∷ scripts) receiver (result_err (result_and end later))
  crowd_more rounds script scripts receiver end later editor crowd = record {
    phase = phase_joined k k1 k' (knows_joined editor.items editor.first.knows) first same_start same_mine link0 link words0 words g0 g rounds receiver crowd.phase;
    ends = result_err end ∷ crowd.ends;
    joined = record { number = k2.number; items = k2.mine } ∷ crowd.joined;
    did = (editor.first.knows.number, part_joined script (result_err end) editor, crowd_later k1.seen k'.seen first k.start (k.splits + 1 + 1) scripts crowd.ends crowd.joined crowd.did);
    first = first_and end later crowd.ends crowd.first;
    joined_are = ap (λ (h : Known Item). h.joined) joined_is ∙ ap (λ (js : List (Joined Item)). record { number = k2.number; items = k2.mine } ∷ js) crowd.joined_are;
    splits_are = ap (λ (h : Known Item). h.splits) joined_is ∙ crowd.splits_are ∙ omega arith;
  }

  pub crowd_step : (k0 k00 : Known Item) (rounds : ℕ) (all : List (List EditorLine)) (script : List EditorLine) (scripts : List (List EditorLine)) (receiver receiver' end later later' : Result ⊤ SessionFault)
      → all ≡ script ∷ scripts → receiver' ≡ receiver → later' ≡ result_and end later → k0 ≡ splitting k → k00 ≡ copied k → LinesDid k00 k2 script (result_err end)
      → IsCrowd (stand k0 link0 words0 g0) (stand k1 link words g) rounds scripts (result_err receiver) (result_err later)
      → IsCrowd (stand k link0 words0 g0) (stand k' link words g) rounds all (result_err receiver') (result_err later')
  crowd_step k0 k00 rounds all script scripts receiver receiver' end later later' all_are receiver_is later_is split copy editor crowd =
      subst (λ (z : List (List EditorLine) × Result ⊤ SessionFault × Result ⊤ SessionFault). IsCrowd (stand k link0 words0 g0) (stand k' link words g) rounds z.0 (result_err z.1) (result_err z.2)) (λ i. (sym all_are i, sym receiver_is i, sym later_is i))
      (crowd_more rounds script scripts (result_err receiver) end later (subst (λ (z : Known Item). LinesDid z k2 script (result_err end)) copy editor)
      (subst (λ (z : Known Item). IsCrowd (stand z link0 words0 g0) (stand k1 link words g) rounds scripts (result_err receiver) (result_err later)) split crowd))
