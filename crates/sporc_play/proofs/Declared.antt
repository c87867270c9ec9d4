-- What a line declares, and what there is then.
use Rattle.std.proofs.Common.{◌≡◌, ℕ, List, [], ◌∷◌, ◌++◌, map, fold, refl, sym, ap, ◌∙◌, subst, append-nil, Option, None, Some}
use Rattle.sporc_play.proofs.Common.{filter_map, AllByRecursion, cons_option, filter_map-append, fold-append, Device, Founder, first_device, insert_by, Command, Tree, MemberRole, PlayLine, Rogue}
use Rattle.sporc_play.proofs.Common.{Seat, declared_member, device_by, founder_by, founder_of, public_of, rogue_by, unpaired_by, HasDeclared, HasRogue, HasSat, HaveDeclared, HaveRogues, HaveSeats, IsFresh, IsFreshRogue, IsNamed}
use Rattle.sporc_play.proofs.Common.{all_append, map-append, founders_by, rogue_devices, seated, Pair, Cast, Declared}
use Rattle.sporc_script.specs.declared.command.Command.TheVariants as commands
use Rattle.sporc_script.specs.declared.command.RosterEdit.{RosterEdit}
use Rattle.sporc_script.specs.declared.sign.Forgery.{Forgery}

-- one line more: what it adds to a list that is read off the lines
more : {Y : Type 0} (f : Command → Option Y) (lines : List PlayLine) (l : PlayLine) (c : Command) → l.command ≡ c
    → filter_map (λ (l : PlayLine). f l.command) (lines ++ l ∷ []) ≡ filter_map (λ (l : PlayLine). f l.command) lines ++ cons_option (f c) []
more f lines l c is =
    filter_map-append (λ (l : PlayLine). f l.command) lines (l ∷ []) ∙ ap (λ (d : Command). filter_map (λ (l : PlayLine). f l.command) lines ++ cons_option (f d) []) is

founders_more : (tree : Tree) (lines : List PlayLine) (l : PlayLine) (m : MemberRole) → founder_by l.command ≡ Some m → founders_by tree (lines ++ l ∷ []) ≡ insert_by (λ (f : Founder). f.member) (founder_of tree m) (founders_by tree lines)
founders_more tree lines l m is =
    ap (fold (λ (founders : List Founder) (m : MemberRole). insert_by (λ (f : Founder). f.member) (founder_of tree m) founders) [])
    (filter_map-append (λ (l : PlayLine). founder_by l.command) lines (l ∷ []) ∙ ap (λ (o : Option MemberRole). filter_map (λ (l : PlayLine). founder_by l.command) lines ++ cons_option o []) is)
    ∙ fold-append (λ (founders : List Founder) (m : MemberRole). insert_by (λ (f : Founder). f.member) (founder_of tree m) founders) [] (filter_map (λ (l : PlayLine). founder_by l.command) lines) (m ∷ [])

founders_same : (tree : Tree) (lines : List PlayLine) (l : PlayLine) → founder_by l.command ≡ None → founders_by tree (lines ++ l ∷ []) ≡ founders_by tree lines
founders_same tree lines l is =
    ap (fold (λ (founders : List Founder) (m : MemberRole). insert_by (λ (f : Founder). f.member) (founder_of tree m) founders) [])
    (filter_map-append (λ (l : PlayLine). founder_by l.command) lines (l ∷ []) ∙ ap (λ (o : Option MemberRole). filter_map (λ (l : PlayLine). founder_by l.command) lines ++ cons_option o []) is ∙ append-nil _)

same_more : {Y : Type 0} (f : Command → Option Y) (lines : List PlayLine) (l : PlayLine) (c : Command) (xs : List Y) → l.command ≡ c → f c ≡ None
    → xs ≡ filter_map (λ (l : PlayLine). f l.command) lines → xs ≡ filter_map (λ (l : PlayLine). f l.command) (lines ++ l ∷ [])
same_more {Y = Y} f lines l c xs is none so =
    so ∙ sym (append-nil _) ∙ ap (λ (o : Option Y). filter_map (λ (l : PlayLine). f l.command) lines ++ cons_option o []) (sym none) ∙ sym (more f lines l c is)

push_more : {Y : Type 0} (f : Command → Option Y) (lines : List PlayLine) (l : PlayLine) (c : Command) (xs : List Y) (y : Y) → l.command ≡ c → f c ≡ Some y
    → xs ≡ filter_map (λ (l : PlayLine). f l.command) lines → xs ++ y ∷ [] ≡ filter_map (λ (l : PlayLine). f l.command) (lines ++ l ∷ [])
push_more {Y = Y} f lines l c xs y is some so =
    ap (λ (zs : List Y). zs ++ y ∷ []) so ∙ ap (λ (o : Option Y). filter_map (λ (l : PlayLine). f l.command) lines ++ cons_option o []) (sym some) ∙ sym (more f lines l c is)

-- ---- seats and rogues

pub seats_same : (tree : Tree) (lines : List PlayLine) (l : PlayLine) (c : Command) (seats : List Seat) → HaveSeats tree lines seats → l.command ≡ c → device_by c ≡ None → HaveSeats tree (lines ++ l ∷ []) seats
seats_same tree lines l c seats known is none = record { fresh = known.fresh; seated_are = same_more device_by lines l c (seated seats) is none known.seated_are }

pub seats_more : (tree t : Tree) (lines : List PlayLine) (l : PlayLine) (c : Command) (who : Device) (seats seats' : List Seat) → HaveSeats tree lines seats → t ≡ tree → l.command ≡ c → device_by c ≡ Some who → HasSat t who seats seats' → HaveSeats tree (lines ++ l ∷ []) seats'
seats_more tree t lines l c who seats seats' known one is some sat = record {
  fresh = subst (AllByRecursion (IsFresh tree)) (sym sat.pushed) (all_append (IsFresh tree) seats (sat.seat ∷ []) known.fresh (subst (λ (t : Tree). IsFresh t sat.seat) one sat.fresh, tt));
  seated_are = ap seated sat.pushed ∙ map-append (λ (x : Seat). x.device) seats (sat.seat ∷ []) ∙ ap (λ (d : Device). seated seats ++ d ∷ []) sat.own ∙ push_more device_by lines l c (seated seats) who is some known.seated_are;
}

pub rogues_same : (tree : Tree) (lines : List PlayLine) (l : PlayLine) (c : Command) (rogues : List Rogue) → HaveRogues tree lines rogues → l.command ≡ c → rogue_by c ≡ None → HaveRogues tree (lines ++ l ∷ []) rogues
rogues_same tree lines l c rogues known is none = record { fresh = known.fresh; devices_are = same_more rogue_by lines l c (rogue_devices rogues) is none known.devices_are }

pub rogues_more : (tree t : Tree) (lines : List PlayLine) (l : PlayLine) (c : Command) (who : Device) (rogues rogues' : List Rogue) → HaveRogues tree lines rogues → t ≡ tree → l.command ≡ c → rogue_by c ≡ Some who → HasRogue t who rogues rogues' → HaveRogues tree (lines ++ l ∷ []) rogues'
rogues_more tree t lines l c who rogues rogues' known one is some sat = record {
  fresh = subst (AllByRecursion (IsFreshRogue tree)) (sym sat.pushed) (all_append (IsFreshRogue tree) rogues (sat.rogue ∷ []) known.fresh (subst (λ (t : Tree). IsFreshRogue t sat.rogue) one sat.fresh, tt));
  devices_are = ap rogue_devices sat.pushed ∙ map-append (λ (x : Rogue). x.device) rogues (sat.rogue ∷ []) ∙ ap (λ (d : Device). rogue_devices rogues ++ d ∷ []) sat.own ∙ push_more rogue_by lines l c (rogue_devices rogues) who is some known.devices_are;
}

-- ---- who takes part

-- the names after one more
record Names (tree : Tree) (lines : List PlayLine) (l : PlayLine) (cast : Cast) : Type 0 where
  declared : map (λ d. d.member) cast.declared.items ≡ filter_map (λ l. declared_member l.command) (lines ++ l ∷ [])
  keys : AllByRecursion (λ d. d.key ≡ public_of tree (first_device d.member)) cast.declared.items

named : (tree : Tree) (lines : List PlayLine) (l : PlayLine) (c : Command) (m : ℕ) (key : List ℕ) (cast new : Cast) → HasDeclared tree lines cast → l.command ≡ c → declared_member c ≡ Some m
    → key ≡ public_of cast.tree (first_device m) → IsNamed m key cast new → Names tree lines l new
named tree lines l c m key cast new known is own key_is did = record {
  declared = ap (map (λ (d : Declared). d.member)) did.declared ∙ map-append (λ (d : Declared). d.member) cast.declared.items (record { member = m; key = key } ∷ [])
      ∙ push_more declared_member lines l c (map (λ (d : Declared). d.member) cast.declared.items) m is own known.declared;
  keys = subst (AllByRecursion (λ (d : Declared). d.key ≡ public_of tree (first_device d.member))) (sym did.declared)
      (all_append (λ (d : Declared). d.key ≡ public_of tree (first_device d.member)) cast.declared.items (record { member = m; key = key } ∷ []) known.keys (key_is ∙ ap (λ (t : Tree). public_of t (first_device m)) known.tree_is, tt));
}

-- a founder, whether a member or a rogue
pub founded : (tree : Tree) (lines : List PlayLine) (l : PlayLine) (c : Command) (m : MemberRole) (key : List ℕ) (cast mid new : Cast) → HasDeclared tree lines cast → l.command ≡ c → founder_by c ≡ Some m → declared_member c ≡ Some m.member → unpaired_by c ≡ None
    → key ≡ public_of cast.tree (first_device m.member) → IsNamed m.member key cast mid → new.founders.items ≡ insert_by (λ (f : Founder). f.member) (record { member = m.member; role = m.role; key = key }) mid.founders.items
    → new.tree ≡ mid.tree → new.declared.items ≡ mid.declared.items → new.unpaired.items ≡ mid.unpaired.items → HasDeclared tree (lines ++ l ∷ []) new
founded tree lines l c m key cast mid new known is founds own paired key_is did founders tree_is declared unpaired =
    let names = named tree lines l c m.member key cast mid known is own key_is did in
    record {
      tree_is = tree_is ∙ did.tree ∙ known.tree_is;
      declared = ap (map (λ (d : Declared). d.member)) declared ∙ names.declared;
      keys = subst (AllByRecursion (λ (d : Declared). d.key ≡ public_of tree (first_device d.member))) (sym declared) names.keys;
      unpaired = same_more unpaired_by lines l c new.unpaired.items is paired (unpaired ∙ did.unpaired ∙ known.unpaired);
      founders = founders ∙ ap (insert_by (λ (f : Founder). f.member) (record { member = m.member; role = m.role; key = key })) (did.founders ∙ known.founders)
          ∙ ap (λ (k : List ℕ). insert_by (λ (f : Founder). f.member) (record { member = m.member; role = m.role; key = k }) (founders_by tree lines)) (key_is ∙ ap (λ (t : Tree). public_of t (first_device m.member)) known.tree_is)
          ∙ sym (founders_more tree lines l m (ap founder_by is ∙ founds));
    }

pub joined : (tree : Tree) (lines : List PlayLine) (l : PlayLine) (m : ℕ) (key : List ℕ) (cast new : Cast) → HasDeclared tree lines cast → l.command ≡ commands.Joiner m
    → key ≡ public_of cast.tree (first_device m) → IsNamed m key cast new → HasDeclared tree (lines ++ l ∷ []) new
joined tree lines l m key cast new known is key_is did =
    let names = named tree lines l (commands.Joiner m) m key cast new known is refl key_is did in
    record {
      tree_is = did.tree ∙ known.tree_is;
      declared = names.declared;
      keys = names.keys;
      unpaired = same_more unpaired_by lines l (commands.Joiner m) new.unpaired.items is refl (did.unpaired ∙ known.unpaired);
      founders = did.founders ∙ known.founders ∙ sym (founders_same tree lines l (ap founder_by is));
    }

pub parted : (tree : Tree) (lines : List PlayLine) (l : PlayLine) (p : Pair) (cast new : Cast) → HasDeclared tree lines cast → l.command ≡ commands.Unpaired p
    → new.unpaired.items ≡ cast.unpaired.items ++ p ∷ [] → new.tree ≡ cast.tree → new.declared.items ≡ cast.declared.items → new.founders.items ≡ cast.founders.items → HasDeclared tree (lines ++ l ∷ []) new
parted tree lines l p cast new known is pushed tree_is declared founders = record {
  tree_is = tree_is ∙ known.tree_is;
  declared = same_more declared_member lines l (commands.Unpaired p) (map (λ (d : Declared). d.member) new.declared.items) is refl (ap (map (λ (d : Declared). d.member)) declared ∙ known.declared);
  keys = subst (AllByRecursion (λ (d : Declared). d.key ≡ public_of tree (first_device d.member))) (sym declared) known.keys;
  unpaired = pushed ∙ push_more unpaired_by lines l (commands.Unpaired p) cast.unpaired.items p is refl known.unpaired;
  founders = founders ∙ known.founders ∙ sym (founders_same tree lines l (ap founder_by is));
}

-- a line that may declare a device, and nobody
pub cast_same : (tree : Tree) (lines : List PlayLine) (l : PlayLine) (c : Command) (cast : Cast) → HasDeclared tree lines cast → l.command ≡ c → declared_member c ≡ None → unpaired_by c ≡ None → founder_by c ≡ None → HasDeclared tree (lines ++ l ∷ []) cast
cast_same tree lines l c cast known is nobody paired founder = record {
  tree_is = known.tree_is;
  declared = same_more declared_member lines l c (map (λ (d : Declared). d.member) cast.declared.items) is nobody known.declared;
  keys = known.keys;
  unpaired = same_more unpaired_by lines l c cast.unpaired.items is paired known.unpaired;
  founders = known.founders ∙ sym (founders_same tree lines l (ap founder_by is ∙ founder));
}

-- trees whose sizes are the same
pub with_trees : (tree : Tree) (lines : List PlayLine) (cast : Cast) (trees : Tree) → trees ≡ cast.tree → HasDeclared tree lines cast → HasDeclared tree lines (record cast { tree = trees })
with_trees tree lines cast trees same known = record {
  tree_is = same ∙ known.tree_is;
  declared = known.declared;
  keys = known.keys;
  unpaired = known.unpaired;
  founders = known.founders;
}

-- ---- all of it

pub all_declared : (tree : Tree) (lines : List PlayLine) (cast : Cast) (seats : List Seat) (rogues : List Rogue) → HasDeclared tree lines cast → HaveSeats tree lines seats → HaveRogues tree lines rogues → HaveDeclared tree lines cast seats rogues
all_declared tree lines cast seats rogues one two three = record { cast_is = one; seats_are = two; rogues_are = three }

-- ---- a line that declares nothing

pub record DeclaresNone (c : Command) : Type 0 where
  pub declared : declared_member c ≡ None
  pub unpaired : unpaired_by c ≡ None
  pub founder : founder_by c ≡ None
  pub device : device_by c ≡ None
  pub rogue : rogue_by c ≡ None

pub nothing_by_change : (edit : RosterEdit) → DeclaresNone (commands.Change edit)
nothing_by_change edit = record { declared = refl; unpaired = refl; founder = refl; device = refl; rogue = refl }

pub nothing_by_sign : (forgery : Forgery) → DeclaresNone (commands.Sign forgery)
nothing_by_sign forgery = record { declared = refl; unpaired = refl; founder = refl; device = refl; rogue = refl }

pub nothing_more : (tree : Tree) (lines : List PlayLine) (l : PlayLine) (c : Command) (cast new : Cast) (seats : List Seat) (rogues : List Rogue) → l.command ≡ c → DeclaresNone c → new ≡ cast
    → HaveDeclared tree lines cast seats rogues → HaveDeclared tree (lines ++ l ∷ []) new seats rogues
nothing_more tree lines l c cast new seats rogues is none same known =
    subst (λ (x : Cast). HaveDeclared tree (lines ++ l ∷ []) x seats rogues) (sym same)
    (record {
      cast_is = cast_same tree lines l c cast known.cast_is is none.declared none.unpaired none.founder;
      seats_are = seats_same tree lines l c seats known.seats_are is none.device;
      rogues_are = rogues_same tree lines l c rogues known.rogues_are is none.rogue;
    })

nothing_declared : (c : Command) → ((m : MemberRole) → c ≡ commands.Member m → ⊥) → ((m : MemberRole) → c ≡ commands.Rogue m → ⊥) → ((m : ℕ) → c ≡ commands.Joiner m → ⊥) → ((p : Pair) → c ≡ commands.Unpaired p → ⊥) → ((who : Device) → c ≡ commands.Device who → ⊥) → DeclaresNone c
nothing_declared (commands.Member m) a b d e f = absurd (a m refl)
nothing_declared (commands.Rogue m) a b d e f = absurd (b m refl)
nothing_declared (commands.Joiner m) a b d e f = absurd (d m refl)
nothing_declared (commands.Unpaired p) a b d e f = absurd (e p refl)
nothing_declared (commands.Device who) a b d e f = absurd (f who refl)
nothing_declared c a b d e f = record { declared = refl; unpaired = refl; founder = refl; device = refl; rogue = refl }

pub none_declared : (tree : Tree) (lines : List PlayLine) (l : PlayLine) (cast : Cast) (seats : List Seat) (rogues : List Rogue)
    → ((m : MemberRole) → l.command ≡ commands.Member m → ⊥) → ((m : MemberRole) → l.command ≡ commands.Rogue m → ⊥) → ((m : ℕ) → l.command ≡ commands.Joiner m → ⊥) → ((p : Pair) → l.command ≡ commands.Unpaired p → ⊥) → ((who : Device) → l.command ≡ commands.Device who → ⊥)
    → HaveDeclared tree lines cast seats rogues → HaveDeclared tree (lines ++ l ∷ []) cast seats rogues
none_declared tree lines l cast seats rogues a b d e f known =
    nothing_more tree lines l l.command cast cast seats rogues refl (nothing_declared l.command a b d e f) refl known
