-- The name of a document's file tells which one it is.
use Rattle.std.proofs.Common.{◌≡◌, ℕ, List, [], ◌∷◌, ◌++◌, length, drop, Option, Some, option_map, codes, refl, sym, ap, ◌∙◌, arith}
use Rattle.sporc_files.proofs.Common.{DeviceInRange, device_text, File, FileNames, IsOfDocument, file_name, stem_of, suffix_of, append_cancel_left, drop_at, length-reverse, reverse-append}
use Rattle.sporc_files.proofs.Common.{reverse-reverse, Device, first_device}
use Rattle.std.specs.Prelude.{bytes_eq, reverse, if◌then◌else◌}
use Rattle.std.proofs.lemmas.Option.{same_Some}
use Rattle.sporc_script.specs.Readers.{device_of}
use Rattle.sporc_script.proofs.DeviceWords.{device_exact}
use Rattle.sporc_files.specs.declared.file.File.TheVariants as files

-- ---- the parts of what stands behind the stem

abbrev first_two : List ℕ → List ℕ
first_two (a ∷ b ∷ xs) = a ∷ b ∷ []
first_two other = other

-- the last two bytes, the last one first
abbrev end_of : List ℕ → List ℕ
end_of suffix = first_two (reverse suffix)

-- what stands between a first byte and so many last ones
abbrev middle : ℕ → List ℕ → List ℕ
middle len suffix = drop 1 (reverse (drop len (reverse suffix)))

middle_is : (text back : List ℕ) → middle (length back) (46 ∷ (text ++ back)) ≡ text
middle_is text back =
    let turned : reverse (46 ∷ (text ++ back)) ≡ reverse back ++ reverse (46 ∷ text) = reverse-append (46 ∷ text) back in
    let left : drop (length back) (reverse (46 ∷ (text ++ back))) ≡ reverse (46 ∷ text) =
    ap (drop (length back)) turned ∙ drop_at (reverse back) (reverse (46 ∷ text)) (length back) (length-reverse back) in
    ap (λ (bytes : List ℕ). drop 1 (reverse bytes)) left ∙ ap (drop 1) (reverse-reverse (46 ∷ text))

-- ---- the file that a suffix tells

abbrev file_with_end : List ℕ → List ℕ → Option File
file_with_end end suffix =
    if bytes_eq end (codes "ye") then option_map files.Key (device_of (middle 4 suffix))
    else if bytes_eq end (codes "fa") then option_map files.Leaf (device_of (middle 5 suffix))
    else if bytes_eq end (codes "gn") then option_map (λ d. files.Ring d.member) (device_of (middle 5 suffix))
    else if bytes_eq end (codes "yr") then option_map files.History (device_of (middle 8 suffix))
    else if bytes_eq end (codes "si") then Some files.Genesis
    else if bytes_eq end (codes "li") then Some files.Tail
    else Some files.Log

abbrev file_told : List ℕ → Option File
file_told suffix = file_with_end (end_of suffix) suffix

-- what ends so
ends : (text back : List ℕ) → end_of (46 ∷ (text ++ back)) ≡ first_two (reverse back ++ reverse (46 ∷ text))
ends text back = ap first_two (reverse-append (46 ∷ text) back)

-- the device that stands in it
device_read : {A : Type 0} (d : Device) (back : List ℕ) (f : Device → A) → DeviceInRange d
    → option_map f (device_of (middle (length back) (46 ∷ (device_text d ++ back)))) ≡ Some (f d)
device_read d back f range =
    ap (λ (text : List ℕ). option_map f (device_of text)) (middle_is (device_text d) back) ∙ ap (option_map f) (device_exact.complete d range)

told_again : (file : File) → IsOfDocument file → file_told (suffix_of file) ≡ Some file
told_again files.Genesis range = refl
told_again files.Log range = refl
told_again files.Tail range = refl
told_again (files.Key d) range =
    ap (λ (end : List ℕ). file_with_end end (suffix_of (files.Key d))) (ends (device_text d) (codes ".key")) ∙ device_read d (codes ".key") files.Key range
told_again (files.Leaf d) range =
    ap (λ (end : List ℕ). file_with_end end (suffix_of (files.Leaf d))) (ends (device_text d) (codes ".leaf")) ∙ device_read d (codes ".leaf") files.Leaf range
told_again (files.Ring m) range =
    ap (λ (end : List ℕ). file_with_end end (suffix_of (files.Ring m))) (ends (device_text (first_device m)) (codes ".ring"))
    ∙ device_read (first_device m) (codes ".ring") (λ d. files.Ring d.member) (range, omega arith)
told_again (files.History d) range =
    ap (λ (end : List ℕ). file_with_end end (suffix_of (files.History d))) (ends (device_text d) (codes ".history")) ∙ device_read d (codes ".history") files.History range
told_again file never = absurd never

stem_is : (names : FileNames) (file : File) → IsOfDocument file → stem_of names file ≡ names.document
stem_is names (files.Script n) never = absurd never
stem_is names (files.GenesisOf n) never = absurd never
stem_is names (files.LogOf n) never = absurd never
stem_is names (files.Document n) never = absurd never
stem_is names (files.TailOf n) never = absurd never
stem_is names file range = refl

pub names_apart : (names : FileNames) (one other : File) → IsOfDocument one → IsOfDocument other → file_name names one ≡ file_name names other → one ≡ other
names_apart names one other is is_other same =
    let around : (file : File) → IsOfDocument file → names.document ++ suffix_of file ≡ file_name names file =
    λ file range. ap (λ (stem : List ℕ). stem ++ suffix_of file) (sym (stem_is names file range)) in
    let suffixes : suffix_of one ≡ suffix_of other =
    append_cancel_left names.document (suffix_of one) (suffix_of other) (around one is ∙ same ∙ sym (around other is_other)) in
    same_Some one other (sym (told_again one is) ∙ ap file_told suffixes ∙ told_again other is_other)
