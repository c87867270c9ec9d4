-- No text that a client has shown is long: an edit adds few characters, entries that come add few in all, and giving up
-- goes back to the committed text.
use Rattle.std.proofs.Common.{◌≡◌, ℕ, zero, suc, ◌+◌, ◌*◌, ◌^◌, ◌≤◌, Bool, true, false, cond, List, [], ◌∷◌, ◌++◌, length, take, drop, sym, ap, ◌∙◌, subst, arith, add-zero, zero-add}
use Rattle.std.proofs.Common.{length-append, Option, Result, Ok, Err, IfOk}
use Rattle.sporc_play.proofs.Common.{is_some, and_parts, take-append-le, take_all, fold-append, MAX_COUNT, Mark, apply, base_len, remove_marks, inserted_len, insert_marks, out_len}
use Rattle.sporc_play.proofs.Common.{replacement, keep_marks, Genesis, change_in, Good, Meets, epoch_key, Kit, MAX_EDIT_BYTES, MAX_EVENTS, Event, ClientModel, state_of, Logged, Edit}
use Rattle.sporc_play.proofs.Common.{Accept, Discard, Opening, PlainClient, committed_of, opened, shown_after, shown_of, change_comes, edit_comes, form_coming, is_flight, keeps, own_comes}
use Rattle.sporc_play.proofs.Common.{replay_from, restated, step, replay_opening, added, journal_of, forms_of, next_form, text_after, beyond, IsSound}
use Rattle.sporc_hash.proofs.Lists.{from_end}
use Rattle.sporc_delta.proofs.Lengths.{inserted_len-keep_marks, out_len-append, out_len-remove_marks, out_len-insert_marks}
use Rattle.sporc_suffix.specs.Forms.{Follow, all_inserted}
use Rattle.sporc_suffix.proofs.Following.{all_inserted-append}
use Rattle.sporc_xform.proofs.LengthLemmas.{out_len-le}
use Rattle.sporc_head.specs.declared.limits.TheConstants.{MAX_ENTRIES}
use Rattle.sporc_line.proofs.FormLengths.{inserted_len-over, length-apply, length-text}
use Rattle.sporc_line.proofs.Goods.{first_key, good_none, good_push, last_passes}
use Rattle.sporc_line.proofs.MoreForms.{forms_push}
use Rattle.sporc_client.proofs.Checked.{edit_may}
use Rattle.sporc_client.specs.Allowed.{can_log, can_log_all, is_allowed}
use Rattle.sporc_client.specs.Step.{replay}
use Rattle.sporc_client.proofs.AcceptedHistories.{accept_passes}
use Rattle.sporc_client.proofs.Comings.{follow_last}
use Rattle.sporc_client.proofs.ShownCounts.{journal_from_count, log_grows, shown_count}
use Rattle.sporc_client.proofs.Small.{inserted_len-beyond, inserted_len-bytes, few_inserted, length-text_of}

-- ---- the shown deltas of a client: one for each event of its log

pub journal_count : (o : Opening) (log : List Logged) (journal : List Event) → journal ≡ journal_of log → length journal ≡ length (replay o log).shown
journal_count o log journal is = ap length is ∙ journal_from_count 0 log ∙ sym (shown_count o log)

-- what a call that adds an event answers
pub events_told : {F : Type 0} (o : Opening) (log new : List Logged) (event : Logged) (answer : Result ℕ F) → IfOk answer (λ n. n ≡ length new) → new ≡ log ++ added answer event
    → IfOk answer (λ n. n ≡ length (replay o log).shown + 1)
events_told o log new event (Ok n) count grown = count ∙ ap length grown ∙ length-append log (event ∷ []) ∙ ap (λ (k : ℕ). k + 1) (sym (shown_count o log))
events_told o log new event (Err fault) count grown = tt

-- ---- histories

few_more : (g : Genesis) (kit : Kit) (A : List (List ℕ)) (b : List ℕ) → Good g kit (A ++ b ∷ []) → length (A ++ b ∷ []) ≤ MAX_ENTRIES
few_more g kit A b good =
    let p = last_passes g kit A b good in
    omega (arith, length-append A (b ∷ []), p.2.room)

few_entries : (g : Genesis) (kit : Kit) (A : List (List ℕ)) → Good g kit A → length A ≤ MAX_ENTRIES
few_entries g kit = from_end (λ A. Good g kit A → length A ≤ MAX_ENTRIES) (λ good. omega arith) (λ A b before good. few_more g kit A b good)

-- ---- texts after deltas

follow_front : (base : ℕ) (fs gs : List (List Mark)) → Follow base (fs ++ gs) → Follow base fs
follow_front base [] gs follow = tt
follow_front base (f ∷ fs) gs follow = (follow.0, follow_front (out_len f) fs gs follow.1)

base_is : (forms : List (List Mark)) (f : List Mark) → Follow 0 (forms ++ f ∷ []) → base_len f ≡ length (text_after forms)
base_is forms f follow = follow_last 0 forms f follow ∙ sym (length-text forms (follow_front 0 forms (f ∷ []) follow))

last_text : (forms : List (List Mark)) (f : List Mark) → Follow 0 (forms ++ f ∷ []) → length (text_after (forms ++ f ∷ [])) ≡ out_len f
last_text forms f follow =
    ap length (fold-append (λ (text : List ℕ) (form : List Mark). apply form text) [] forms (f ∷ [])) ∙ length-apply f (text_after forms) (base_is forms f follow)

more_text : (forms : List (List Mark)) (f : List Mark) → Follow 0 (forms ++ f ∷ []) → length (text_after (forms ++ f ∷ [])) ≤ length (text_after forms) + inserted_len f
more_text forms f follow = omega (arith, last_text forms f follow, out_len-le f, base_is forms f follow)

-- ---- one client

-- its shown text is short
record IsShort (c : PlainClient) : Type 0 where
  good : Good c.opening.genesis c.opening.kit c.entries
  text : length (text_after c.shown) ≤ 2 ^ 34 + MAX_EDIT_BYTES * length c.shown + all_inserted (forms_of c.opening.genesis c.opening.kit c.entries)

-- an event that adds few characters
edit_short : (c : PlainClient) (f : List Mark) → IsShort c → Follow 0 (c.shown ++ f ∷ []) → inserted_len f ≤ MAX_EDIT_BYTES
    → length (text_after (c.shown ++ f ∷ [])) ≤ 2 ^ 34 + MAX_EDIT_BYTES * length (c.shown ++ f ∷ []) + all_inserted (forms_of c.opening.genesis c.opening.kit c.entries)
edit_short c f short follow few = omega (arith, more_text c.shown f follow, short.text, length-append c.shown (f ∷ []), few)

kept_short : (c : PlainClient) (n : ℕ) → IsShort c → Follow 0 (c.shown ++ keep_marks n ∷ [])
    → length (text_after (c.shown ++ keep_marks n ∷ [])) ≤ 2 ^ 34 + MAX_EDIT_BYTES * length (c.shown ++ keep_marks n ∷ []) + all_inserted (forms_of c.opening.genesis c.opening.kit c.entries)
kept_short c n short follow = edit_short c (keep_marks n) short follow (omega (arith, inserted_len-keep_marks n))

-- one that adds an entry
entry_short : (c : PlainClient) (b : List ℕ) (f : List Mark) → IsShort c → Good c.opening.genesis c.opening.kit (c.entries ++ b ∷ []) → Follow 0 (c.shown ++ f ∷ []) → inserted_len f ≤ inserted_len (form_coming c b)
    → length (text_after (c.shown ++ f ∷ [])) ≤ 2 ^ 34 + MAX_EDIT_BYTES * length (c.shown ++ f ∷ []) + all_inserted (forms_of c.opening.genesis c.opening.kit (c.entries ++ b ∷ []))
entry_short c b f short good follow few =
    let g = c.opening.genesis in
    let kit = c.opening.kit in
    omega (
      arith,
      more_text c.shown f follow,
      short.text,
      length-append c.shown (f ∷ []),
      few,
      ap all_inserted (forms_push g kit c.entries b good),
      all_inserted-append (forms_of g kit c.entries) (next_form g kit c.entries b ∷ []),
    )

discard_short : (c : PlainClient) → IsShort c → (n : ℕ) → Follow 0 (c.shown ++ replacement n (committed_of c) ∷ [])
    → length (text_after (c.shown ++ replacement n (committed_of c) ∷ [])) ≤ 2 ^ 34 + MAX_EDIT_BYTES * length (c.shown ++ replacement n (committed_of c) ∷ []) + all_inserted (forms_of c.opening.genesis c.opening.kit c.entries)
discard_short c short n follow =
    let text = committed_of c in
    omega (
      arith,
      last_text c.shown (replacement n text) follow,
      out_len-append (remove_marks n) (insert_marks text),
      out_len-remove_marks n,
      out_len-insert_marks text,
      length-text_of c.opening.genesis c.opening.kit c.entries short.good,
      few_entries c.opening.genesis c.opening.kit c.entries short.good,
    )

step_short : (c : PlainClient) (event : Logged) → IsShort c → can_log c event ≡ true → Follow 0 (step c event).shown → IsShort (step c event)
step_short c (Edit by seen marks) short may follow =
    let passed = edit_may c by seen marks may in
    let few : inserted_len (restated c seen marks) ≤ MAX_EDIT_BYTES = omega (arith, inserted_len-over marks (drop seen c.shown), inserted_len-bytes marks, passed.bytes) in
    record { good = short.good; text = edit_short c (restated c seen marks) short follow few }
step_short c (Accept by bytes) short may follow = go (is_flight c bytes) (is_some (change_in bytes)) follow
  where
    good : Good c.opening.genesis c.opening.kit (c.entries ++ bytes ∷ [])
    good = good_push c.opening.genesis c.opening.kit c.entries bytes short.good (accept_passes c by bytes may)

    none : inserted_len (keeps c) ≤ inserted_len (form_coming c bytes)
    none = omega (arith, inserted_len-keep_marks (length (shown_of c)))

    go : (own change : Bool) → Follow 0 (cond own (own_comes c bytes) (cond change (change_comes c bytes) (edit_comes c bytes))).shown → IsShort (cond own (own_comes c bytes) (cond change (change_comes c bytes) (edit_comes c bytes)))
    go true change follow = record { good = good; text = entry_short c bytes (keeps c) short good follow none }
    go false true follow = record { good = good; text = entry_short c bytes (keeps c) short good follow none }
    go false false follow = record { good = good; text = entry_short c bytes (beyond (form_coming c bytes) c.pending) short good follow (inserted_len-beyond (form_coming c bytes) c.pending) }
step_short c (Discard by) short may follow = record { good = short.good; text = discard_short c short (length (shown_of c)) follow }
step_short c event short may follow = record { good = short.good; text = kept_short c (length (shown_of c)) short follow }

-- ---- its log

IsBelow : List (List Mark) → ℕ → Type 0
IsBelow shown n = length (text_after (take n shown)) ≤ 2 ^ 35 + MAX_EDIT_BYTES * n

short_now : (c : PlainClient) (log : List Logged) → IsShort c → IsBelow (replay_from c log).shown (length c.shown)
unfolding IsBelow
short_now c log short =
    let grown = log_grows c log in
    let here : take (length c.shown) (replay_from c log).shown ≡ c.shown =
    ap (take (length c.shown)) grown.1 ∙ take-append-le (length c.shown) c.shown grown.0 (omega arith) ∙ take_all (length c.shown) c.shown (omega arith) in
    let few = few_inserted c.opening.genesis c.opening.kit c.entries short.good in
    let entries = few_entries c.opening.genesis c.opening.kit c.entries short.good in
    omega (arith, ap (λ (forms : List (List Mark)). length (text_after forms)) here, short.text, few, entries)

short_from : (c : PlainClient) (log : List Logged) (n : ℕ) → IsShort c → can_log_all c log ≡ true → Follow 0 (replay_from c log).shown → n ≤ length log → IsBelow (replay_from c log).shown (length c.shown + n)
short_from c log zero short may follow within = subst (IsBelow (replay_from c log).shown) (sym (add-zero (length c.shown))) (short_now c log short)
short_from c [] (suc n) short may follow within = absurd (omega (arith, within))
short_from c (event ∷ log) (suc n) short may follow within =
    let d = step c event in
    let p = and_parts (can_log c event) (can_log_all d log) may in
    let rest = log_grows d log in
    let here : Follow 0 d.shown = follow_front 0 d.shown rest.0 (subst (Follow 0) rest.1 follow) in
    let one = log_grows c (event ∷ []) in
    let count : length d.shown + n ≡ length c.shown + suc n = omega (arith, ap length one.1, length-append c.shown one.0, one.2) in
    subst (IsBelow (replay_from d log).shown) count (short_from d log n (step_short c event short p.0 here) p.1 follow (omega (arith, within)))

opened_short : (o : Opening) → Good o.genesis o.kit [] → IsShort (opened o)
opened_short o good = record { good = good; text = omega arith }

abbrev pub HasShortTexts : {D : Type 0} → ClientModel D → Type 0
HasShortTexts c = (seen : ℕ) → seen ≤ length c.log → length (shown_after seen (state_of c)) ≤ MAX_COUNT

pub short_texts_of : (o : Opening) (log : List Logged) → is_allowed o log ≡ true → IsSound (replay o log) → length log ≤ MAX_EVENTS → (seen : ℕ) → seen ≤ length log → length (shown_after seen (replay o log)) ≤ MAX_COUNT
unfolding replay is_allowed IsBelow
short_texts_of o log may sound few seen low =
    let c = replay o log in
    let begin : Good o.genesis o.kit [] = good_none o.genesis o.kit
    (subst (λ (p : Opening). Meets p.genesis 0 (epoch_key p.genesis p.kit [] 0) p.genesis.commitment) (replay_opening o log)
    (subst (λ (k : Option (List ℕ)). Meets c.opening.genesis 0 k c.opening.genesis.commitment) (first_key c.opening.genesis c.opening.kit c.entries []) sound.good.opens)) in
    let below : length (text_after (take (0 + seen) (replay_from (opened o) log).shown)) ≤ 2 ^ 35 + MAX_EDIT_BYTES * (0 + seen) = short_from (opened o) log seen (opened_short o begin) may sound.follow low in
    omega (arith, below, ap (λ (n : ℕ). length (text_after (take n (replay_from (opened o) log).shown))) (zero-add seen), few, low)

pub short_texts : {D : Type 0} (c : ClientModel D) → is_allowed c.opening c.log ≡ true → IsSound (state_of c) → length c.log ≤ MAX_EVENTS → HasShortTexts c
short_texts c may sound few = short_texts_of c.opening c.log may sound few
