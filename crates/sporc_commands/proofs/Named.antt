-- Those who are named, one after another.
use Rattle.std.proofs.Common.{◌≡◌, ℕ, suc, ◌+◌, ◌<◌, List, [], ◌∷◌, ◌++◌, length, take, drop, get_or, Option, sym, ap, ◌∙◌, subst, add-one}
use Rattle.sporc_commands.proofs.Common.{take-append-drop, NamedFile, Use, FolderTold, first_device, Named, Participant, Fault, FileNames, IsFileFault, IsPart, key_file, file_within, AreNamed, FirstBadKey, IsNamed, Joiner}
use Rattle.std.proofs.Math.Seq.{drop-cons, take-suc}
use Rattle.sporc_files.specs.declared.fault.Fault.TheVariants as faults
use Rattle.sporc_files.specs.declared.file.File.TheVariants as files

pub nobody : (told : Option (List NamedFile)) (names : FileNames) (ns : List Named) → ns ≡ [] → AreNamed told names [] ns
nobody told names ns none = rw none tt

pub one_more : (told : Option (List NamedFile)) (names : FileNames) (ps : List Participant) (ns : List Named) (p : Participant) (n : Named) → AreNamed told names ps ns
    → IsNamed told names p.member p.standing n → AreNamed told names (ps ++ p ∷ []) (ns ++ n ∷ [])
one_more told names [] [] p n all one = (one, tt)
one_more told names (q ∷ ps) (m ∷ ns) p n (first, all) one = (first, one_more told names ps ns p n all one)
one_more told names ps ns p n all one = absurd all

-- the list around one of its items
pub around : {X : Type 0} (xs : List X) (i : ℕ) (d : X) → i < length xs → xs ≡ take i xs ++ (get_or xs i d ∷ drop (suc i) xs)
around xs i d within = sym (ap (λ ys. take i xs ++ ys) (sym (drop-cons xs i d within)) ∙ take-append-drop i xs)

pub first_bad : (whole part : Use FolderTold) (names : FileNames) (all : List Participant) (i : ℕ) (d : Participant) (ns : List Named) (fault : Fault) → i < length all
    → AreNamed whole.before.files names (take i all) ns
    → IsFileFault (key_file (first_device (get_or all i d).member)) part names (files.Key (first_device (get_or all i d).member)) fault → IsPart whole part → FirstBadKey whole names all fault
first_bad whole part names all i d ns fault within read cause is_part =
    record {
      before = take i all;
      one = get_or all i d;
      behind = drop (suc i) all;
      split = around all i d within;
      named = ns;
      read = read;
      cause = file_within (key_file (first_device (get_or all i d).member)) whole part names (files.Key (first_device (get_or all i d).member)) fault cause is_part;
    }

-- memory ran out after one was read
pub no_memory : (folder : Use FolderTold) (names : FileNames) (all : List Participant) (i : ℕ) (ns : List Named) → i < length all → AreNamed folder.before.files names (take i all) ns
    → FirstBadKey folder names all faults.Memory
no_memory folder names all i ns within read =
    let d : Participant = record { member = 0; standing = Joiner } in
    record { before = take i all; one = get_or all i d; behind = drop (suc i) all; split = around all i d within; named = ns; read = read; cause = tt }

pub named_more : (told now : Option (List NamedFile)) (names : FileNames) (all : List Participant) (i : ℕ) (d : Participant) (ns new : List Named) (n : Named) → i < length all
    → now ≡ told → new ≡ ns ++ n ∷ [] → AreNamed told names (take i all) ns → IsNamed now names (get_or all i d).member (get_or all i d).standing n
    → AreNamed told names (take (i + 1) all) new
named_more told now names all i d ns new n within same is read one =
    let here = subst (λ (o : Option (List NamedFile)). IsNamed o names (get_or all i d).member (get_or all i d).standing n) same one in
    let both = one_more told names (take i all) ns (get_or all i d) n read here in
    rw (add-one, take-suc all i d within, is) both
