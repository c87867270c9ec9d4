use Rattle.std.proofs.Common.{◌≡◌, ℕ, ap, ◌∙◌, arith}
use Rattle.sporc_member.specs.declared.device.Device.{Device}
use Rattle.sporc_epoch.proofs.laws.streams_do_not_meet.Goals as goal

one_device : (a b : Device) → a.member ≡ b.member → a.number ≡ b.number → a ≡ b
one_device a b m n =
    let made : ℕ → ℕ → Device = λ m n. record { member = m; number = n } in
    ap (λ (k : ℕ). made k a.number) m ∙ ap (made b.member) n

pub returns : goal.returns
returns c = record {
  entries = λ a b l m few few' low low' same. (
    one_device a b (omega (arith, few, few', low, low', same)) (omega (arith, few, few', low, low', same)),
    omega (arith, few, few', low, low', same),
  );
  epochs = λ e f same. omega (arith, same);
  apart = λ d l e small few low same. omega (arith, small, few, low, same);
  entry_fits = λ d l small few low. omega (arith, small, few, low);
  epoch_fits = λ e low. omega (arith, low);
}
