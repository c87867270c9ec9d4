-- What a session did to a client, from the contracts of the shared client.
use Rattle.std.proofs.Common.{◌≡◌, ◌≤◌, ℕ, List, [], sym, ap, ◌∙◌, subst, arith}
use Rattle.sporc_clients.proofs.Common.{IfErr, Result, ⊤, ChanceTold, Use, EditorLine, IsAllowed, Item, Past, items_of, SessionFault}
use Rattle.sporc_clients.proofs.Common.{Wanted, IsSessionOf, LinkTold, stand_at, IsAllowedLog, InboxModel, empty_inbox}
use Rattle.sporc_base.specs.Lists.{StartsWith}
use Rattle.sporc_turn.specs.declared.known.Known.{Known}
use Rattle.sporc_turn.specs.declared.pass.Pass.{Pass}
use Rattle.sporc_turn.specs.Knowing.{first_known}
use Rattle.sporc_turn.specs.Passes.{known_of, watermark_of}
use Rattle.sporc_session.specs.Replies.{HasReadFor}
use Rattle.sporc_session.specs.Sessions.{IsSession}
use Rattle.sporc_clients.specs.Counts.{CountedIfFailed}
use Rattle.sporc_session.proofs.Pasts.{past_goes_on}
use Rattle.sporc_device.proofs.LinksUsed.{told_again}

-- what number 0 knows as it is handed out
pub record IsFirstKnown (k : Known Item) : Type 0 where
  pub number : k.number ≡ 0
  pub splits : k.splits ≡ 0
  pub joined : k.joined ≡ []
  pub allowed : IsAllowedLog k.seen

pub is_first_known : (k : Known Item) (p : Past) → k ≡ first_known (items_of p) → IsAllowed p → IsFirstKnown k
is_first_known k p e allowed = record {
  number = ap (λ (k : Known Item). k.number) e;
  splits = ap (λ (k : Known Item). k.splits) e;
  joined = ap (λ (k : Known Item). k.joined) e;
  allowed = record { past = p; log_is = ap (λ (k : Known Item). k.seen) e; allowed = allowed };
}

pub session_of : (wanted : Wanted) (editors : List (List EditorLine)) (before after : Past) (first : Known Item) (last : Pass Item) (inbox : InboxModel)
    (link : Use LinkTold) (chance : Use ChanceTold) (result : Result ⊤ SessionFault) → editors ≡ wanted.editors → first ≡ first_known (items_of before)
    → IsSession (stand_at first empty_inbox link.before chance.before) (stand_at (known_of last) inbox link.after chance.after) wanted.rounds wanted.until editors result
    → IfErr result (HasReadFor last) → items_of after ≡ (known_of last).seen → IsAllowed after → IsSessionOf wanted before after link chance result
session_of wanted editors before after first last inbox link chance result same opened session read closed allowed =
    let from = stand_at (first_known (items_of before)) empty_inbox link.before chance.before in
    let to = stand_at (known_of last) inbox link.after chance.after in
    let s = subst (λ (es : List (List EditorLine)). IsSession from to wanted.rounds wanted.until es result) same
    (subst (λ (k : Known Item). IsSession (stand_at k empty_inbox link.before chance.before) to wanted.rounds wanted.until editors result) opened session) in
    let t = past_goes_on before after (subst (λ (l : List Item). StartsWith l (items_of before)) (sym s.log_is ∙ sym closed) s.legal.begins) in
    record { pass = last; inbox = inbox; session = s; read = read; seen = sym closed; events = t.0; goes_on = t.1; allowed = allowed }

-- the disk of the client that came back has counted the fault that the session ended by
pub disk_counted : (last : Pass Item) (disk_faults : ℕ) (result : Result ⊤ SessionFault) → IfErr result (HasReadFor last) → watermark_of last ≤ disk_faults → CountedIfFailed disk_faults result
disk_counted last disk_faults result read low is = λ none. subst (λ (r : Result ⊤ SessionFault). IfErr r (HasReadFor last)) is read (omega (arith, none, low))

pub over_same_link : (wanted : Wanted) (before after : Past) (first : LinkTold) (chance : Use ChanceTold) (result : Result ⊤ SessionFault)
    (old new : LinkTold) → new.written ≡ old.written → new.left ≡ old.left → new.faults ≡ old.faults
    → IsSessionOf wanted before after (record { before = first; after = old }) chance result
    → IsSessionOf wanted before after (record { before = first; after = new }) chance result
over_same_link wanted before after first chance result old new written left faults session =
    subst (λ (l : LinkTold). IsSessionOf wanted before after (record { before = first; after = l }) chance result)
    (sym (told_again old new written left faults)) session
