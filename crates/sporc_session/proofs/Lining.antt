-- Editors' lines: what is done stays done in a longer log, and lines in a row.
use Rattle.std.proofs.Common.{◌≡◌, ℕ, ◌+◌, List, [], ◌∷◌, ◌++◌, take, drop, Option, Some, None, Ok, Err, sym, subst, append-nil, append_assoc}
use Rattle.sporc_session.proofs.Common.{Result, ⊤, Mark, EditorLine, Known, StartsWith, EditFault, change_fault, edit_fault, PlainClient, Item, SessionFault, KnowsMore, LineDid, LinesDid, LinesDone}
use Rattle.sporc_session.proofs.Common.{AnswersAt, AreLinesDone, Asked, Changes, Edits, IsDone, IsEditAt, LineCause, LineEnd, LineFails, LineGives, asked_by}
use Rattle.sporc_client.specs.declared.fault.EditFault.TheVariants as edits
use Rattle.sporc_session.specs.declared.fault.SessionFault.TheVariants as faults
use Rattle.sporc_session.proofs.Knowing.{client_later, knows_none, knows_then, point_later}

-- a line fails for the same cause, if the client's answers mean as much elsewhere
pub fails_as : (number line : ℕ) (Gives Gives' : EditFault → Type 0) → ((fault : EditFault) → Gives fault → Gives' fault) → (fault : SessionFault) → LineFails number line Gives fault → LineFails number line Gives' fault
fails_as number line Gives Gives' more (faults.EditRefused editor l fault) h = (h.0, h.1, h.2, more fault h.3)
fails_as number line Gives Gives' more faults.JournalFull h = more edits.JournalFull h
fails_as number line Gives Gives' more (faults.Worn ticket) h = h
fails_as number line Gives Gives' more faults.Memory h = tt
fails_as number line Gives Gives' more _ h = absurd h

-- ---- a longer log

module _ (log log' : List Item) (s : StartsWith log' log) (start number : ℕ) where
  edit_later : (mine : List Item) (edit : ℕ → List Mark) (seen : ℕ) (marks : List Mark) → IsEditAt log start number mine edit seen marks → IsEditAt log' start number mine edit seen marks
  edit_later mine edit seen marks h = record {
    client = h.client;
    is_point = point_later log log' start number mine (seen + 1) s h.is_point;
    is_client = client_later log log' (seen + 1) h.client s h.is_point.within h.is_client;
    marks_are = h.marks_are;
  }

  done_later : (mine : List Item) (asked : Asked) (item : Item) → IsDone log start number mine asked item → IsDone log' start number mine asked item
  done_later mine (Edits edit) item d = (d.0, d.1, edit_later mine edit d.0 d.1 d.2, d.3)
  done_later mine (Changes change) item d = d

  pub lines_later : (mine : List Item) (lines : List EditorLine) (items : List Item) → AreLinesDone log start number mine lines items → AreLinesDone log' start number mine lines items
  lines_later mine [] [] d = tt
  lines_later mine (line ∷ lines) (item ∷ items) d = (done_later mine (asked_by line.command) item d.0, lines_later (mine ++ item ∷ []) lines items d.1)
  lines_later mine _ _ d = absurd d

  pub answers_later : (mine : List Item) (answers : PlainClient → Option EditFault) (fault : EditFault) → AnswersAt log start number mine answers fault → AnswersAt log' start number mine answers fault
  answers_later mine answers fault h = record {
    point = h.point;
    client = h.client;
    is_point = point_later log log' start number mine h.point s h.is_point;
    is_client = client_later log log' h.point h.client s h.is_point.within h.is_client;
    is = h.is;
  }

  gives_later : (mine : List Item) (asked : Asked) (fault : EditFault) → LineGives log start number mine asked fault → LineGives log' start number mine asked fault
  gives_later mine (Edits edit) fault h = (h.0, h.1, edit_later mine edit h.0 h.1 h.2, answers_later mine (λ client. edit_fault client h.0 h.1) fault h.3)
  gives_later mine (Changes change) fault h = answers_later mine change_fault fault h

  cause_later : (mine : List Item) (lines : List EditorLine) (fault : SessionFault) → LineCause log start number mine lines fault → LineCause log' start number mine lines fault
  cause_later mine [] fault h = absurd h
  cause_later mine (line ∷ lines) fault h =
      fails_as number line.number (LineGives log start number mine (asked_by line.command)) (LineGives log' start number mine (asked_by line.command)) (gives_later mine (asked_by line.command)) fault h

  pub end_later : (mine : List Item) (lines : List EditorLine) (end : Option SessionFault) → LineEnd log start number mine lines end → LineEnd log' start number mine lines end
  end_later mine lines None h = h
  end_later mine lines (Some fault) h = cause_later mine lines fault h

-- ---- lines in a row

-- one line more
lines_push : (log : List Item) (start number : ℕ) (mine : List Item) (lines : List EditorLine) (items : List Item) (line : EditorLine) (item : Item)
    → AreLinesDone log start number mine lines items → IsDone log start number (mine ++ items) (asked_by line.command) item → AreLinesDone log start number mine (lines ++ line ∷ []) (items ++ item ∷ [])
lines_push log start number mine [] [] line item d h = (subst (λ (m : List Item). IsDone log start number m (asked_by line.command) item) (append-nil mine) h, tt)
lines_push log start number mine (x ∷ xs) (y ∷ ys) line item d h =
    (d.0, lines_push log start number (mine ++ y ∷ []) xs ys line item d.1 (subst (λ (m : List Item). IsDone log start number m (asked_by line.command) item) (sym (append_assoc mine (y ∷ []) ys)) h))
lines_push log start number mine _ _ line item d h = absurd d

pub done_none : (k : Known Item) → LinesDone k k [] []
done_none k = record { knows = knows_none k; done = tt }

-- a pass that did lines, and then one more
pub done_push : (k k1 k2 : Known Item) (lines : List EditorLine) (items : List Item) (line : EditorLine) (x : ⊤) (one : Result ⊤ SessionFault)
    → one ≡ Ok x → LinesDone k k1 lines items → LineDid k1 k2 line one → (item : Item) × LinesDone k k2 (lines ++ line ∷ []) (items ++ item ∷ [])
done_push k k1 k2 lines items line x one is d h =
    let t = subst (LineDid k1 k2 line) is h in
    let item = t.0 in
    let P : ℕ × ℕ × List Item → Type 0 = λ z. IsDone k2.seen z.0 z.1 z.2 (asked_by line.command) item in
    let done : IsDone k2.seen k.start k.number (k.mine ++ items) (asked_by line.command) item = subst P (λ i. (d.knows.start i, d.knows.number i, d.knows.mine i)) t.2 in (
      item,
      record {
        knows = knows_then k k1 k2 items (item ∷ []) d.knows t.1;
        done = lines_push k2.seen k.start k.number k.mine lines items line item (lines_later k1.seen k2.seen t.1.begins k.start k.number k.mine lines items d.done) done;
      },
    )

-- or one that failed: these are the lines, and then this one and others
pub did_err : (k k1 k2 : Known Item) (all : List EditorLine) (count : ℕ) (items : List Item) (line : EditorLine) (rest : List EditorLine) (fault : SessionFault) (one : Result ⊤ SessionFault)
    → drop count all ≡ line ∷ rest → one ≡ Err fault → LinesDone k k1 (take count all) items → LineDid k1 k2 line one → LinesDid k k2 all (Some fault)
did_err k k1 k2 all count items line rest fault one next is d h =
    let t = subst (LineDid k1 k2 line) is h in
    let P : ℕ × ℕ × List Item → Type 0 = λ z. LineFails z.1 line.number (LineGives k2.seen z.0 z.1 z.2 (asked_by line.command)) fault in
    let cause : LineCause k2.seen k.start k.number (k.mine ++ items) (line ∷ rest) fault = subst P (λ i. (d.knows.start i, d.knows.number i, d.knows.mine i)) t.1 in
    record {
      count = count;
      items = items;
      first = record {
        knows = subst (KnowsMore k k2) (append-nil items) (knows_then k k1 k2 items [] d.knows t.0);
        done = lines_later k1.seen k2.seen t.0.begins k.start k.number k.mine (take count all) items d.done;
      };
      end = subst (λ (ls : List EditorLine). LineCause k2.seen k.start k.number (k.mine ++ items) ls fault) (sym next) cause;
    }

-- all were done
pub did_all : (k k1 : Known Item) (all : List EditorLine) (count : ℕ) (items : List Item) → drop count all ≡ [] → LinesDone k k1 (take count all) items → LinesDid k k1 all None
did_all k k1 all count items whole d = record { count = count; items = items; first = d; end = whole }
