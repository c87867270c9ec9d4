-- What a tail keeps once an entry was put.
use Rattle.std.proofs.Common.{◌≡◌, ℕ, ◌+◌, ◌-◌, ◌^◌, ◌<◌, inr, true, false, List, [], ◌∷◌, ◌++◌, length, take, Result, Ok, Err, OnOk, OnErr, sym, ap, ◌∙◌, arith, append-nil, append_assoc}
use Rattle.sporc_store.proofs.Common.{length-append, All-append, All-cons, All-nil, All, AppendTold, file_images, FitsRecord, record_bytes, tail_bytes, KeepsEntries, Puts, TailFileModel, Writes}
use Rattle.sporc_store.proofs.TailReads.{tail_more}

module _ {D : Type 0} (file_told : D → AppendTold) where
  -- where the next record stands
  place_of : (position : ℕ) (entries before behind : List (List ℕ)) → entries ≡ before ++ behind → position ≡ length entries + 1 → position ≡ length before + length behind + 1
  place_of position entries before behind parts at = omega (arith, at, ap length parts, length-append before behind)

  module _ {E F : Type 0} (old new : TailFileModel D) (position : ℕ) (entry : List ℕ) (sound : old.is_faulty ≡ false) (fits : FitsRecord entry)
      (below : position < 2 ^ 31 - 1) (document : new.document ≡ old.document) where
    -- all of the record was
    pub puts_all : (done : Unit {0}) → Writes file_told {E = F} (record_bytes position entry) old.file new.file (Ok done) → Puts file_told {E = E} old position entry (Ok done) new
    puts_all done writes = record {
      document = document;
      writes = record { step = writes.step; all = writes.all };
      acts = inr (sound, fits, omega (arith, below));
      ok = λ entries before behind keeps at.
          let from = length before in
          let more = behind ++ entry ∷ [] in
          let place = place_of position entries before behind keeps.parts at in
          let exact : (image : List ℕ) → file_images (file_told new.file) image → image ≡ tail_bytes new.document from more = λ image there.
          let was = writes.all image there in
          was.2 ∙ ap (λ (l : List ℕ). l ++ record_bytes position entry) (keeps.whole sound was.0 was.1)
          ∙ ap (λ (p : ℕ). tail_bytes old.document from behind ++ record_bytes p entry) place
          ∙ sym (tail_more old.document from behind entry) ∙ ap (λ (d : List ℕ). tail_bytes d from more) (sym document) in
          record {
            parts = ap (λ (l : List (List ℕ)). l ++ entry ∷ []) keeps.parts ∙ append_assoc before behind (entry ∷ []);
            holds = λ image there.
                let was = writes.all image there in
                let tail = (keeps.holds was.0 was.1).2 in (
                  [],
                  0,
                  record {
                    bytes_are = exact image there ∙ sym (append-nil (tail_bytes new.document from more));
                    fit = All-append FitsRecord behind (entry ∷ []) tail.fit (All-cons FitsRecord entry [] fits (All-nil FitsRecord));
                    next_fits = omega arith;
                    positions = omega (arith, below, place, length-append behind (entry ∷ []));
                  },
                );
            whole = λ still. exact;
          };
      err = tt;
    }

    -- a prefix of it was, at the most
    pub puts_part : (e : E) (f : F) → Writes file_told (record_bytes position entry) old.file new.file (Err f) → new.is_faulty ≡ true → Puts file_told old position entry (Err e) new
    puts_part e f writes faulty = record {
      document = document;
      writes = record { step = writes.step; all = tt };
      acts = inr (sound, fits, omega (arith, below));
      ok = tt;
      err = λ entries before behind keeps at.
          let from = length before in
          let place = place_of position entries before behind keeps.parts at in
          record {
            parts = keeps.parts;
            holds = λ image there.
                let step = writes.step.during (file_told new.file).moment image writes.step.later (omega arith) there in
                let tail = (keeps.holds step.0 step.1).2 in (
                  entry,
                  step.2.0,
                  record {
                    bytes_are =
                        step.2.1 ∙ ap (λ (l : List ℕ). l ++ take step.2.0 (record_bytes position entry)) (keeps.whole sound step.0 step.1)
                        ∙ ap (λ (p : ℕ). tail_bytes old.document from behind ++ take step.2.0 (record_bytes p entry)) place
                        ∙ ap (λ (d : List ℕ). tail_bytes d from behind ++ take step.2.0 (record_bytes (from + length behind + 1) entry)) (sym document);
                    fit = tail.fit;
                    next_fits = fits;
                    positions = omega (arith, below, place);
                  },
                );
            whole = λ still. absurd (let clash : true ≡ false = sym faulty ∙ still in cc);
          };
    }

  -- what the tail keeps then
  pub kept_with : {E : Type 0} (old new : TailFileModel D) (position : ℕ) (entry : List ℕ) (result : Result (Unit {0}) E) → Puts file_told old position entry result new
      → OnOk result ((entries : List (List ℕ)) → KeepsEntries file_told old entries → position ≡ length entries + 1 → KeepsEntries file_told new (entries ++ entry ∷ []))
  kept_with old new position entry (Ok done) puts = λ entries keeps at. (keeps.0, keeps.1 ++ entry ∷ [], puts.ok entries keeps.0 keeps.1 keeps.2 at)
  kept_with old new position entry (Err e) puts = tt

  pub still_kept : {E : Type 0} (old new : TailFileModel D) (position : ℕ) (entry : List ℕ) (result : Result (Unit {0}) E) → Puts file_told old position entry result new
      → OnErr result ((entries : List (List ℕ)) → KeepsEntries file_told old entries → position ≡ length entries + 1 → KeepsEntries file_told new entries)
  still_kept old new position entry (Ok done) puts = tt
  still_kept old new position entry (Err e) puts = λ entries keeps at. (keeps.0, keeps.1, puts.err entries keeps.0 keeps.1 keeps.2 at)
