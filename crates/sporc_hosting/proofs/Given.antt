-- A tail that is given back.
use Rattle.std.proofs.Common.{◌≡◌, ◌≤◌, ℕ, List, length, Option, None, Some}
use Rattle.sporc_hosting.proofs.Common.{IfSome, GivesAll, KeepsBehind, LogTailModel, AppendTold, file_images}
use Rattle.std.proofs.Math.Logic.{∥∥₁_map}
use Rattle.sporc_hosting.proofs.Tails.{gives_all}

-- what holds of bytes that are told, at most once
told_once : (o : Option (List ℕ)) (P : List ℕ → Type 0) → ∥ IfSome o P ∥₁ → IfSome o (λ bytes. ∥ P bytes ∥₁)
told_once None P held = tt
told_once (Some bytes) P held = held

pub gives_kept : {D : Type 0} (file_told : D → AppendTold) (t : LogTailModel D) (document : List ℕ) (logged : ℕ)
    (entries : List (List ℕ)) → ((file : D) → IfSome (file_told file).stored (file_images (file_told file))) → length document ≡ 16 → t.document ≡ document → t.logged ≤ logged
    → ∥ KeepsBehind file_told t entries ∥₁ → IfSome (file_told t.tail.file).stored (λ bytes. ∥ GivesAll logged document bytes entries ∥₁)
gives_kept file_told t document logged entries is_image is16 own within kept =
    told_once (file_told t.tail.file).stored (λ bytes. GivesAll logged document bytes entries)
    (∥∥₁_map kept (λ k. gives_all file_told t document logged entries (is_image t.tail.file) is16 own within k))
