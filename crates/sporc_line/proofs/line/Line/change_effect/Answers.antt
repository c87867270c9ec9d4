use Rattle.std.proofs.Common.{◌≡◌, ℕ, ◌+◌, ◌≤◌, List, length, take, arith, ap, ◌∙◌}
use Rattle.sporc_line.proofs.Common.{take_all, err_from_is_err_and, keep_marks, Memory, epoch_of, epoch_le, text_of, unless_exit}
use Rattle.sporc_line.proofs.Effects.{change_does, change_seen, started_seen}
use Rattle.sporc_line.proofs.line.Line.change_effect.Goals as goal

pub overflow_add-epoch : goal.overflow_add-epoch
overflow_add-epoch c = omega (arith, c.epoch-epoch.ensures.value, ap epoch_of c.heads.ensures.entries, epoch_le c.args.self.now.entries)

pub returns-in_err-check_new_key-clause-fault : goal.returns-in_err-check_new_key-clause-fault
returns-in_err-check_new_key-clause-fault c =
    let p = err_from_is_err_and c.from_residual.result c.from_residual.ensures.1 in
    let s = started_seen {kit = c.args.self.now.kit} c.requires.checked c.requires.change (c.epoch-epoch.ensures.value ∙ ap epoch_of c.heads.ensures.entries) c.own_device.ensures.value c.document.ensures.value
    (c.copied-old.ensures ∙ c.key.ensures.value) c.kit.ensures.value c.header.ensures.value c.started_key-key.ensures.value in
    unless_exit Memory _ p.0 c.in_err-check_new_key.field-0.0 _ p.1 p.2 (λ _. change_seen s ∙ c.in_err-check_new_key.ensures.fault)

pub returns : goal.returns
returns c =
    let s = started_seen {kit = c.args.self.now.kit} c.requires.checked c.requires.change (c.epoch-epoch.ensures.value ∙ ap epoch_of c.heads.ensures.entries) c.own_device.ensures.value c.document.ensures.value
    (c.copied-old.ensures ∙ c.key.ensures.value) c.kit.ensures.value c.header.ensures.value c.started_key-key.ensures.value in
    let all : length c.args.self.now.entries ≤ length c.args.self.now.entries = omega arith in
    let text : c.text_len_at.result ≡ length (text_of c.args.self.now.genesis c.args.self.now.kit c.args.self.now.entries) =
    c.text_len_at.ensures.value
    ∙ ap (λ (n : ℕ). length (text_of c.args.self.now.genesis c.args.self.now.kit (take n c.args.self.now.entries))) c.len-len.ensures.value
    ∙ ap (λ (entries : List (List ℕ)). length (text_of c.args.self.now.genesis c.args.self.now.kit entries)) (take_all (length c.args.self.now.entries) c.args.self.now.entries all) in
    record {
      fault = change_seen s ∙ c.in_ok-check_new_key.ensures.fault;
      ok = change_does c.args.self.now.genesis c.args.self.now.kit c.args.self.now.entries c.args.checked.now c.args.body.now (c.epoch-epoch.result + 1) (record { form = c.in_ok-form.form; key = c.started_key-key.result })
          s.checked s.change s.epoch_is (c.in_ok-form.ensures.ok ∙ ap keep_marks text) s.key_is;
    }
