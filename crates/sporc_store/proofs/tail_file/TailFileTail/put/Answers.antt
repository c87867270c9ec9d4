use Rattle.std.proofs.Common.{◌∙◌, Err, List, Ok, arith, refl, subst, true, ℕ}
use Rattle.sporc_store.proofs.Common.{Puts, TailFileModel, Writes}
use Rattle.sporc_order.specs.declared.tail.Unkept.{Unkept}
use Rattle.sporc_outside.specs.declared.counted.Failed.{Failed}
use Rattle.sporc_store.proofs.TailPuts.{kept_with, puts_all, puts_part, still_kept}
use Rattle.sporc_store.proofs.tail_file.TailFileTail.put.Goals as goal

pub returns-in-Ok-append_synced-clause-puts : goal.returns-in-Ok-append_synced-clause-puts
returns-in-Ok-append_synced-clause-puts g c =
    let was = c.self.inside in
    let old : TailFileModel g.row.A.Denot = record { file = was.file; document = was.document; is_faulty = was.is_faulty } in
    let new : TailFileModel g.row.A.Denot = record { file = c.append_synced.new.file; document = was.document; is_faulty = was.is_faulty } in
    let writes = subst (λ (bytes : List ℕ). Writes g.A.AppendFile.told {E = Failed} bytes was.file c.append_synced.new.file (Ok tt))
    (c.deref.ensures.value ∙ c.in-Ok.ensures) c.in-Ok-append_synced.ensures.writes in
    subst (λ (t : TailFileModel g.row.A.Denot). Puts g.A.AppendFile.told {E = Unkept} t c.args.position c.args.entry.now (Ok tt) new) c.self.view_is
    (puts_all g.A.AppendFile.told old new c.args.position c.args.entry.now c.if-self.false c.if-entry.false (omega arith) refl tt writes)

pub returns-in-Ok-append_synced-clause-ok : goal.returns-in-Ok-append_synced-clause-ok
returns-in-Ok-append_synced-clause-ok g c =
    let was = c.self.inside in
    let old : TailFileModel g.row.A.Denot = record { file = was.file; document = was.document; is_faulty = was.is_faulty } in
    let new : TailFileModel g.row.A.Denot = record { file = c.append_synced.new.file; document = was.document; is_faulty = was.is_faulty } in
    let writes = subst (λ (bytes : List ℕ). Writes g.A.AppendFile.told {E = Failed} bytes was.file c.append_synced.new.file (Ok tt))
    (c.deref.ensures.value ∙ c.in-Ok.ensures) c.in-Ok-append_synced.ensures.writes in
    let puts : Puts g.A.AppendFile.told {E = Unkept} c.args.self.now c.args.position c.args.entry.now (Ok tt) new =
    subst (λ (t : TailFileModel g.row.A.Denot). Puts g.A.AppendFile.told {E = Unkept} t c.args.position c.args.entry.now (Ok tt) new) c.self.view_is
    (puts_all g.A.AppendFile.told old new c.args.position c.args.entry.now c.if-self.false c.if-entry.false (omega arith) refl tt writes) in
    kept_with g.A.AppendFile.told {E = Unkept} c.args.self.now new c.args.position c.args.entry.now (Ok tt) puts

pub returns-clause-puts : goal.returns-clause-puts
returns-clause-puts g c =
    let was = c.self.inside in
    let old : TailFileModel g.row.A.Denot = record { file = was.file; document = was.document; is_faulty = was.is_faulty } in
    let new : TailFileModel g.row.A.Denot = record { file = c.append_synced.new.file; document = was.document; is_faulty = true } in
    let writes = subst (λ (bytes : List ℕ). Writes g.A.AppendFile.told {E = Failed} bytes was.file c.append_synced.new.file (Err c.in-Err.field-0))
    (c.deref.ensures.value ∙ c.in-Ok.ensures) c.in-Err.ensures.writes in
    subst (λ (t : TailFileModel g.row.A.Denot). Puts g.A.AppendFile.told {E = Unkept} t c.args.position c.args.entry.now (Err record {}) new) c.self.view_is
    (puts_part g.A.AppendFile.told old new c.args.position c.args.entry.now c.if-self.false c.if-entry.false (omega arith) refl (record {})
    c.in-Err.field-0 writes refl)

pub returns-clause-err : goal.returns-clause-err
returns-clause-err g c =
    let was = c.self.inside in
    let old : TailFileModel g.row.A.Denot = record { file = was.file; document = was.document; is_faulty = was.is_faulty } in
    let new : TailFileModel g.row.A.Denot = record { file = c.append_synced.new.file; document = was.document; is_faulty = true } in
    let writes = subst (λ (bytes : List ℕ). Writes g.A.AppendFile.told {E = Failed} bytes was.file c.append_synced.new.file (Err c.in-Err.field-0))
    (c.deref.ensures.value ∙ c.in-Ok.ensures) c.in-Err.ensures.writes in
    let puts : Puts g.A.AppendFile.told {E = Unkept} c.args.self.now c.args.position c.args.entry.now (Err record {}) new =
    subst (λ (t : TailFileModel g.row.A.Denot). Puts g.A.AppendFile.told {E = Unkept} t c.args.position c.args.entry.now (Err record {}) new) c.self.view_is
    (puts_part g.A.AppendFile.told old new c.args.position c.args.entry.now c.if-self.false c.if-entry.false (omega arith) refl (record {})
    c.in-Err.field-0 writes refl) in
    still_kept g.A.AppendFile.told {E = Unkept} c.args.self.now new c.args.position c.args.entry.now (Err record {}) puts
