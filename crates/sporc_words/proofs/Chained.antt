-- Values that are read one after another.
use Rattle.std.proofs.Common.{◌≡◌, Option, None, Some, ap, ◌∙◌}
use Rattle.sporc_words.proofs.Common.{then_read}

pub missing : {A B : Type 0} (o : Option A) (f : A → Option B) → None ≡ o → None ≡ then_read o f
missing {A = A} o f is = ap (λ (x : Option A). then_read x f) is

pub there : {A B : Type 0} (o : Option A) (f : A → Option B) (a : A) (r : Option B) → Some a ≡ o → r ≡ f a → r ≡ then_read o f
there {A = A} o f a r is rest = rest ∙ ap (λ (x : Option A). then_read x f) is
