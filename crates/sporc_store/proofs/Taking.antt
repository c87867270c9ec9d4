-- Entries of a saved history, taken one after another as a loop does.
use Rattle.std.proofs.Common.{◌≡◌, ◌≢◌, ℕ, zero, suc, ◌+◌, ◌-◌, ◌^◌, ◌<◌, ◌≤◌, List, [], ◌∷◌, ◌++◌, length, drop, get_or, Bool, true, cond, eqb, Option, None, Some, Result, Ok, Err, refl, sym, ap, ◌∙◌, subst, append_assoc, length-append, arith}
use Rattle.sporc_store.proofs.Common.{append-nil, drop_all, drop_more, IfOk, OnErr, starts_with, Reading, fault_as, counted_at, end_at, Stop, Foreign, Cut, Refused, Taken, read_to, first_and}
use Rattle.sporc_store.proofs.Common.{stop_behind, entry_and, head_bytes, listed, IsPrefix, IsUnchecked, Checker, accepted, accepted_from, loaded, AppendsPart, AppendsSome, Refusal, HEAD_LEN}
use Rattle.sporc_head.specs.declared.refusal.Refusal.TheVariants.{Memory}
use Rattle.sporc_store.specs.SavedFile.{entries_at, count_at, opened, saved_in}
use Rattle.sporc_store.specs.Loading.{fault_behind, appended, accepted_behind, nobody, taken_on}

-- ---- entries that are read

-- entries that were read, and so many that stand next
abbrev pub read_from : List (List ℕ) → ℕ → Reading → Taken
read_from front n r = read_to (front ++ (entries_at n r).entries) (entries_at n r).stop

-- one entry more was read
pub reads_on : (front : List (List ℕ)) (count i : ℕ) (r after : Reading) (e : List ℕ) (total : Taken) → i < count → counted_at (2 ^ 32 - 1) r ≡ Ok (e, after)
    → read_from front (count - i) r ≡ total → read_from (front ++ e ∷ []) (count - (i + 1)) after ≡ total
unfolding entries_at
reads_on front count i r after e total lt read so_far =
    let left : count - i ≡ suc (count - (i + 1)) = omega arith in
    let rest : Taken = entries_at (count - (i + 1)) after in
    let one : read_from front (count - i) r ≡ read_to (front ++ (e ∷ rest.entries)) rest.stop = rw (left, read) refl in
    ap (λ (es : List (List ℕ)). read_to es rest.stop) (append_assoc front (e ∷ []) rest.entries) ∙ sym one ∙ so_far

-- one was cut short
pub reads_cut : (front : List (List ℕ)) (count i : ℕ) (r : Reading) (at : ℕ) (total : Taken) → i < count → counted_at (2 ^ 32 - 1) r ≡ Err at
    → read_from front (count - i) r ≡ total → read_to front (Cut at) ≡ total
unfolding entries_at
reads_cut front count i r at total lt read so_far =
    let left : count - i ≡ suc (count - (i + 1)) = omega arith in
    let one : read_from front (count - i) r ≡ read_to (front ++ []) (Cut at) = rw (left, read) refl in
    ap (λ (es : List (List ℕ)). read_to es (Cut at)) (sym (append-nil front)) ∙ sym one ∙ so_far

-- none is left
pub reads_behind : (front : List (List ℕ)) (count i : ℕ) (r : Reading) (total : Taken) → count ≤ i → read_from front (count - i) r ≡ total
    → read_to front (stop_behind (end_at r)) ≡ total
unfolding entries_at
reads_behind front count i r total le so_far =
    let left : count - i ≡ 0 = omega arith in
    let one : read_from front (count - i) r ≡ read_to (front ++ []) (stop_behind (end_at r)) = rw left refl in
    ap (λ (es : List (List ℕ)). read_to es (stop_behind (end_at r))) (sym (append-nil front)) ∙ sym one ∙ so_far

-- ---- entries that are appended

-- what is taken in all, whatever follows a part of the entries, where so much of the part was taken
abbrev pub TakesOn : Checker → List (List ℕ) → List (List ℕ) → List (List ℕ) → ℕ → Type 0
TakesOn checker first front es i = (rest : List (List ℕ)) (stop : Stop) → accepted_from checker first (es ++ rest) stop ≡ accepted_from checker front (drop i es ++ rest) stop

-- an entry that a checker like this one answered with no fault
one_on : (checker : Checker) (front es : List (List ℕ)) (stop : Stop) (e : List ℕ) → fault_behind checker front e ≡ None
    → accepted_from checker front (e ∷ es) stop ≡ accepted_from checker (front ++ e ∷ []) es stop
unfolding accepted_behind
one_on checker front es stop e pass =
    let behind : Taken = accepted_behind checker (front ++ e ∷ []) es stop in
    let one : accepted_from checker front (e ∷ es) stop ≡ read_to (front ++ (e ∷ behind.entries)) behind.stop = rw pass refl in
    one ∙ ap (λ (l : List (List ℕ)). read_to l behind.stop) (sym (append_assoc front (e ∷ []) behind.entries))

pub goes_on : (checker k : Checker) (first front more es : List (List ℕ)) (i : ℕ) (e : List ℕ) (fault : Option Refusal) → k ≡ checker → i < length es → e ≡ get_or es i e
    → fault ≡ fault_behind k front e → more ≡ appended fault e front → fault ≡ None → TakesOn checker first front es i → TakesOn checker first more es (i + 1)
goes_on checker k first front more es i e fault same lt at is grown none so_far rest stop =
    let next : drop i es ≡ e ∷ drop (i + 1) es = drop_more es i e lt ∙ ap (λ (x : List ℕ). x ∷ drop (i + 1) es) (sym at) in
    let pass : fault_behind checker front e ≡ None = ap (λ (k : Checker). fault_behind k front e) (sym same) ∙ sym is ∙ none in
    let longer : more ≡ front ++ e ∷ [] = grown ∙ ap (λ (f : Option Refusal). appended f e front) none in
    so_far rest stop ∙ ap (λ (l : List (List ℕ)). accepted_from checker front (l ++ rest) stop) next
    ∙ one_on checker front (drop (i + 1) es ++ rest) stop e pass
    ∙ ap (λ (l : List (List ℕ)). accepted_from checker l (drop (i + 1) es ++ rest) stop) (sym longer)

pub one_more : (front more : List (List ℕ)) (before i : ℕ) (e : List ℕ) (fault : Option Refusal) → more ≡ appended fault e front → fault ≡ None → length front ≡ before + i → length more ≡ before + (i + 1)
one_more front more before i e fault grown none len =
    let longer : length more ≡ length front + 1 = ap length (grown ∙ ap (λ (f : Option Refusal). appended f e front) none) ∙ length-append front (e ∷ []) in
    omega (arith, longer, len)

-- an entry that a checker like this one refused
pub is_refused : (checker k : Checker) (first front more es : List (List ℕ)) (before i : ℕ) (e : List ℕ) (fault : Option Refusal) (refusal : Refusal) → k ≡ checker → length front ≡ before + i
    → i < length es → e ≡ get_or es i e → fault ≡ fault_behind k front e → more ≡ appended fault e front → fault ≢ Some Memory → fault ≡ Some refusal → TakesOn checker first front es i
    → AppendsPart checker first es (Some (Refused (before + i + 1) refusal)) more
unfolding accepted_behind
is_refused checker k first front more es before i e fault refusal same len lt at is grown named refused so_far = record {
  taken = λ rest stop. so_far rest stop ∙ ap (λ (l : List (List ℕ)). accepted_from checker front (l ++ rest) stop) next ∙ ends rest stop
      ∙ ap (λ (n : ℕ). read_to front (Refused (n + 1) refusal)) len ∙ ap (λ (l : List (List ℕ)). read_to l (Refused (before + i + 1) refusal)) (sym as_before);
  count = tt;
  named = λ memory. named (refused ∙ ap Some memory);
}
  where
    next : drop i es ≡ e ∷ drop (i + 1) es
    next = drop_more es i e lt ∙ ap (λ (x : List ℕ). x ∷ drop (i + 1) es) (sym at)

    fail : fault_behind checker front e ≡ Some refusal
    fail = ap (λ (k : Checker). fault_behind k front e) (sym same) ∙ sym is ∙ refused

    as_before : more ≡ front
    as_before = grown ∙ ap (λ (f : Option Refusal). appended f e front) refused

    ends : (rest : List (List ℕ)) (stop : Stop) → accepted_from checker front (e ∷ (drop (i + 1) es ++ rest)) stop ≡ read_to front (Refused (length front + 1) refusal)
    ends rest stop =
        let one : accepted_from checker front (e ∷ (drop (i + 1) es ++ rest)) stop ≡ read_to (front ++ []) (Refused (length front + 1) refusal) = rw fail refl in
        one ∙ ap (λ (l : List (List ℕ)). read_to l (Refused (length front + 1) refusal)) (append-nil front)

-- behind the last entry of a part
pub is_done : (checker : Checker) (first front es : List (List ℕ)) (before i : ℕ) → length first ≡ before → length front ≡ before + i → i ≤ length es → length es ≤ i → TakesOn checker first front es i
    → AppendsPart checker first es None front
is_done checker first front es before i old len within le so_far = record {
  taken = λ rest stop. so_far rest stop ∙ ap (λ (l : List (List ℕ)). accepted_from checker front (l ++ rest) stop) (drop_all i es le);
  count = omega (arith, old, len, within, le);
  named = tt;
}

-- ---- parts of the entries, one behind another

-- a part and what is behind it are all of them
joined : (checker : Checker) (old part rest all : List (List ℕ)) (stop : Stop) (refused : Option Stop) (mid : List (List ℕ)) → part ++ rest ≡ all → AppendsPart checker old part refused mid
    → accepted_from checker old all stop ≡ taken_on refused checker mid rest stop
joined checker old part rest all stop refused mid whole done = ap (λ (l : List (List ℕ)). accepted_from checker old l stop) (sym whole) ∙ done.taken rest stop

-- one of the part was refused
pub ends_refused : (checker : Checker) (old part rest all : List (List ℕ)) (stop end : Stop) (refused : Option Stop) (mid : List (List ℕ)) → part ++ rest ≡ all → refused ≡ Some end
    → AppendsPart checker old part refused mid → read_to mid end ≡ accepted_from checker old all stop
ends_refused checker old part rest all stop end refused mid whole is done =
    sym (joined checker old part rest all stop refused mid whole done ∙ ap (λ (r : Option Stop). taken_on r checker mid rest stop) is)

-- none of it was
pub goes_behind : (checker k : Checker) (old part rest all : List (List ℕ)) (stop : Stop) (refused : Option Stop) (mid : List (List ℕ)) → part ++ rest ≡ all → refused ≡ None → k ≡ checker
    → AppendsPart checker old part refused mid → accepted_from k mid rest stop ≡ accepted_from checker old all stop
goes_behind checker k old part rest all stop refused mid whole is same done =
    ap (λ (k : Checker). accepted_from k mid rest stop) same
    ∙ sym (joined checker old part rest all stop refused mid whole done ∙ ap (λ (r : Option Stop). taken_on r checker mid rest stop) is)

-- and none is behind it
pub ends_whole : (checker : Checker) (old part rest all : List (List ℕ)) (stop : Stop) (refused : Option Stop) (mid : List (List ℕ)) → part ++ rest ≡ all → rest ≡ [] → refused ≡ None
    → AppendsPart checker old part refused mid → read_to mid stop ≡ accepted_from checker old all stop
unfolding accepted_behind
ends_whole checker old part rest all stop refused mid whole empty is done =
    ap (λ (l : List (List ℕ)). read_to l stop) (sym (append-nil mid)) ∙ ap (λ (l : List (List ℕ)). accepted_from checker mid l stop) (sym empty)
    ∙ goes_behind checker checker old part rest all stop refused mid whole is refl done

-- none is left
pub ends_empty : (checker : Checker) (old all : List (List ℕ)) (stop : Stop) → all ≡ [] → read_to old stop ≡ accepted_from checker old all stop
unfolding accepted_behind
ends_empty checker old all stop none =
    ap (λ (l : List (List ℕ)). read_to l stop) (sym (append-nil old)) ∙ ap (λ (l : List (List ℕ)). accepted_from checker old l stop) (sym none)

-- memory ran out in the part, or where those next to it were examined
pub some_of : (checker : Checker) (old part rest all mid : List (List ℕ)) (stop : Stop) → part ++ rest ≡ all → AppendsSome checker old part mid → IsPrefix mid (accepted_from checker old all stop).entries
some_of checker old part rest all mid stop whole some = subst (λ (l : List (List ℕ)). IsPrefix mid (accepted_from checker old l stop).entries) whole (some rest stop)

-- behind none, what is accepted is all
pub from_none : (checker : Checker) (first es : List (List ℕ)) (stop : Stop) → first ≡ [] → accepted_from checker first es stop ≡ accepted checker (read_to es stop)
from_none checker first es stop none = ap (λ (l : List (List ℕ)). accepted_from checker l es stop) none

-- an answer that is told of what is taken in all, where that is the same
pub if_ok_to : {E : Type 0} (r : Result Stop E) (new : List (List ℕ)) {a b : Taken} → a ≡ b → IfOk r (λ end. read_to new end ≡ a) → IfOk r (λ end. read_to new end ≡ b)
if_ok_to (Ok end) new same is = is ∙ same
if_ok_to (Err e) new same is = tt

pub on_err_to : {E : Type 0} (r : Result Stop E) (new : List (List ℕ)) {a b : Taken} → a ≡ b → OnErr r (IsPrefix new a.entries) → OnErr r (IsPrefix new b.entries)
on_err_to (Ok end) new same is = tt
on_err_to (Err e) new same is = subst (λ (taken : Taken). IsPrefix new taken.entries) same is

-- ---- files

-- a file with these entries
pub is_opened : (document bytes : List ℕ) (found : ℕ × Reading) → opened document bytes ≡ Ok found → saved_in document bytes ≡ entries_at found.0 found.1
unfolding saved_in
is_opened document bytes found e = ap listed e

-- a file that is foreign, or cut short before its entries
pub is_stopped : (document bytes : List ℕ) (stop : Stop) → opened document bytes ≡ Err stop → read_to [] stop ≡ saved_in document bytes
unfolding saved_in
is_stopped document bytes stop e = rw e refl

-- ---- entries that nobody checks

all_taken : (front es : List (List ℕ)) (stop : Stop) → accepted_behind nobody front es stop ≡ read_to es stop
unfolding fault_behind accepted_behind
all_taken front [] stop = refl
all_taken front (e ∷ es) stop = ap (first_and e) (all_taken (front ++ e ∷ []) es stop)

pub loaded-nobody : (document bytes : List ℕ) → loaded nobody document bytes ≡ saved_in document bytes
loaded-nobody document bytes = all_taken [] (saved_in document bytes).entries (saved_in document bytes).stop

-- ---- stops that no check made

end_unchecked : (read : Result (Unit {0}) ℕ) → IsUnchecked (stop_behind read)
end_unchecked (Ok end) = tt
end_unchecked (Err at) = tt

entries_unchecked : (n : ℕ) (r : Reading) → IsUnchecked (entries_at n r).stop
unfolding entries_at
entries_unchecked zero r = end_unchecked (end_at r)
entries_unchecked (suc n) r = by (entries_unchecked n) (counted_at (2 ^ 32 - 1) r)
  where
    by : ((r : Reading) → IsUnchecked (entries_at n r).stop) → (read : Result (List ℕ × Reading) ℕ) → IsUnchecked (entry_and read (entries_at n)).stop
    by others (Ok e) = others e.1
    by others (Err at) = tt

pub saved_unchecked : (document bytes : List ℕ) → IsUnchecked (saved_in document bytes).stop
unfolding saved_in opened
saved_unchecked document bytes = by (starts_with eqb bytes (head_bytes document)) (count_at (record { rest = drop HEAD_LEN bytes; at = HEAD_LEN }))
  where
    by : (own : Bool) (count : Result (ℕ × Reading) ℕ) → IsUnchecked (listed (cond own (fault_as Cut count) (Err Foreign))).stop
    by true (Ok found) = entries_unchecked found.0 found.1
    by own count = tt

-- ---- where reading stops, whoever checks the entries

-- one entry more was read
pub stops_later : (count i : ℕ) (r after : Reading) (e : List ℕ) (stop : Stop) → i < count → counted_at (2 ^ 32 - 1) r ≡ Ok (e, after)
    → (entries_at (count - i) r).stop ≡ stop → (entries_at (count - (i + 1)) after).stop ≡ stop
unfolding entries_at
stops_later count i r after e stop lt read so_far =
    let left : count - i ≡ suc (count - (i + 1)) = omega arith in
    let one : (entries_at (count - i) r).stop ≡ (entries_at (count - (i + 1)) after).stop = rw (left, read) refl in
    sym one ∙ so_far

-- one was cut short
pub stops_cut : (count i : ℕ) (r : Reading) (at : ℕ) (stop : Stop) → i < count → counted_at (2 ^ 32 - 1) r ≡ Err at → (entries_at (count - i) r).stop ≡ stop → Cut at ≡ stop
unfolding entries_at
stops_cut count i r at stop lt read so_far =
    let left : count - i ≡ suc (count - (i + 1)) = omega arith in
    let one : (entries_at (count - i) r).stop ≡ Cut at = rw (left, read) refl in
    sym one ∙ so_far

-- none is left
pub stops_behind : (count i : ℕ) (r : Reading) (stop : Stop) → count ≤ i → (entries_at (count - i) r).stop ≡ stop → stop_behind (end_at r) ≡ stop
unfolding entries_at
stops_behind count i r stop le so_far =
    let left : count - i ≡ 0 = omega arith in
    let one : (entries_at (count - i) r).stop ≡ stop_behind (end_at r) = rw left refl in
    sym one ∙ so_far

-- what a file says begins with its number of entries, or it is none
pub stop_opened : (document bytes : List ℕ) (count : ℕ) (r : Reading) → opened document bytes ≡ Ok (count, r) → (saved_in document bytes).stop ≡ (entries_at count r).stop
unfolding saved_in
stop_opened document bytes count r is = rw is refl

pub stop_unopened : (document bytes : List ℕ) (stop : Stop) → opened document bytes ≡ Err stop → (saved_in document bytes).stop ≡ stop
unfolding saved_in
stop_unopened document bytes stop is = rw is refl
