-- How many bytes the file of a history has.
use Rattle.std.proofs.Common.{◌≡◌, ℕ, ◌+◌, ◌<◌, ◌≤◌, List, ◌++◌, length, map, Ok, Err, refl, sym, ap, ◌∙◌, append_assoc, arith, length-append}
use Rattle.sporc_store.proofs.Common.{lt-ltb, le-ltb, length-map, flat_map, w32, to_be_bytes, MAX_FILE, counted, head_bytes, saved_file}
use Rattle.std.proofs.lemmas.List.Folds.{flat_map-map}
use Rattle.std.specs.Global.{Vec}
use Rattle.sporc_wire.specs.Messages.{counted_to_end}
use Rattle.sporc_store.specs.declared.fault.SaveFault.TheVariants.{TooLong}
use Rattle.sporc_store.specs.SavedFile.{saved_bytes}

abbrev pub items : Vec ℕ → List ℕ
items v = v.items

abbrev pub counted_items : Vec ℕ → List ℕ
counted_items v = counted v.items

length-saved : (document : List ℕ) (entries : List (Vec ℕ)) → length document ≡ 16
    → length (saved_bytes document (map items entries)) ≡ 24 + length (flat_map counted_items entries)
unfolding saved_bytes
length-saved document entries is =
    let list : List ℕ = flat_map counted (map items entries) in
    let count : List ℕ = to_be_bytes w32 (length (map items entries)) in
    let same : length list ≡ length (flat_map counted_items entries) = ap length (flat_map-map counted items entries) in
    let head : length (head_bytes document) ≡ 4 + length document = omega arith in
    let four : length count ≡ 4 = refl in
    omega (arith, length-append (head_bytes document) (count ++ list), length-append count list, head, four, same, is)

pub is_too_long : (document : List ℕ) (entries : List (Vec ℕ)) (len : ℕ) → length document ≡ 16 → len ≡ counted_to_end (24 + length (flat_map counted_items entries)) → MAX_FILE < len
    → saved_file document (map items entries) ≡ Err (TooLong len)
is_too_long document entries len is counts above =
    let bytes : List ℕ = saved_bytes document (map items entries) in
    let same : counted_to_end (length bytes) ≡ len = ap counted_to_end (length-saved document entries is) ∙ sym counts in
    let long : MAX_FILE < length bytes = omega (arith, same, above) in
    rw (lt-ltb MAX_FILE (length bytes) long, same) refl

pub is_whole : (document : List ℕ) (entries : List (Vec ℕ)) (len : ℕ) → length document ≡ 16 → len ≡ counted_to_end (24 + length (flat_map counted_items entries)) → len ≤ MAX_FILE
    → saved_file document (map items entries) ≡ Ok (saved_bytes document (map items entries))
is_whole document entries len is counts within =
    let bytes : List ℕ = saved_bytes document (map items entries) in
    let same : counted_to_end (length bytes) ≡ len = ap counted_to_end (length-saved document entries is) ∙ sym counts in
    let short : length bytes ≤ MAX_FILE = omega (arith, same, within) in
    rw (le-ltb MAX_FILE (length bytes) short) refl

-- the head, the number of entries and the entries, written one after another
pub is_written : (document : List ℕ) (entries : List (Vec ℕ)) → (head_bytes document ++ to_be_bytes w32 (length entries)) ++ flat_map counted_items entries ≡ saved_bytes document (map items entries)
unfolding saved_bytes
is_written document entries =
    append_assoc (head_bytes document) (to_be_bytes w32 (length entries)) (flat_map counted_items entries)
    ∙ ap (λ (n : ℕ). head_bytes document ++ (to_be_bytes w32 n ++ flat_map counted_items entries)) (sym (length-map entries items))
    ∙ ap (λ (list : List ℕ). head_bytes document ++ (to_be_bytes w32 (length (map items entries)) ++ list)) (sym (flat_map-map counted items entries))
