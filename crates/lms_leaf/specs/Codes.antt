-- What a value that numbers leaves holds, as numbers beside its disk, which tell it apart.
use Rattle.std.specs.Prelude.{ℕ, Bool, refl}
use Rattle.std.specs.Coded.{Coded, code_by, coded×, coded_ℕ, coded_bool}
use Rattle.lms_leaf.specs.Leaves.{LeavesModel}

abbrev pub leaves_code : {D : Type 0} → Coded D → Coded (LeavesModel D)
leaves_code {D} disk = code_by (D × (ℕ × (ℕ × (ℕ × (Bool × ℕ)))))
    (coded× disk (coded× coded_ℕ (coded× coded_ℕ (coded× coded_ℕ (coded× coded_bool coded_ℕ)))))
    (λ l. (l.disk, (l.next, (l.next_at_open, (l.leaf_count, (l.faulty, l.faults_at_open))))))
    (λ p. record {
      disk = p.0;
      next = p.1.0;
      next_at_open = p.1.1.0;
      leaf_count = p.1.1.1.0;
      faulty = p.1.1.1.1.0;
      faults_at_open = p.1.1.1.1.1;
    }) (λ _. refl)
