-- The generated run: a play of three members, whose edits are computed from what they see.
use Rattle.std.specs.Prelude.{◌≡◌, ◌⊎◌, ℕ, zero, suc, ◌+◌, ◌-◌, ◌*◌, ◌/◌, ◌%◌, ◌==◌, List, [], ◌∷◌}
use Rattle.std.specs.Prelude.{◌++◌, length, codes, flat_map, map, Option, None, Some, if◌then◌else◌}
use Rattle.std.specs.Fmt.{decimal}
use Rattle.sporc_base.specs.Numbers.{up_to}
use Rattle.hex.specs.Hex.{encode_lower}
use Rattle.sporc_head.specs.History.{hash_of}
use Rattle.sporc_member.specs.Device.{first_device}
use Rattle.sporc_member.specs.declared.role.Role.{Role}
use Rattle.sporc_member.specs.declared.role.Role.TheVariants.{Editor, Admin}
use Rattle.sporc_client.specs.PlainClient.{PlainClient, committed_of, shown_of}
use Rattle.sporc_script.specs.declared.command.Command.{Command}
use Rattle.sporc_script.specs.declared.command.Command.TheVariants as commands
use Rattle.sporc_script.specs.declared.command.Height.TheVariants.{Ten}
use Rattle.sporc_script.specs.declared.command.Width.TheVariants.{Four}
use Rattle.sporc_script.specs.declared.play_line.PlayLine.{PlayLine}
use Rattle.sporc_script.specs.declared.text_edit.TextEdit.{TextEdit}
use Rattle.sporc_script.specs.declared.text_edit.TextEdit.TheVariants.{Insert, Remove}
use Rattle.sporc_play.specs.Cast.{setup_of}
use Rattle.sporc_play.specs.Report.{hashes_of}
use Rattle.sporc_play.specs.Scene.{Scene, after_each, opening}

-- ---- what it declares

abbrev declares : ℕ → Command → PlayLine
declares number command = record { number = number; command = command }

abbrev pub founds : ℕ → Role → PlayLine
founds member role =
    declares (member + 1) (commands.Member (record { member = member; role = role }))

-- member 1 an admin, 2 and 3 editors, all with trees of height 10
abbrev pub generated_cast : List PlayLine
generated_cast = declares 1 (commands.Tree (record { height = Ten; width = Four })) ∷ founds 1 Admin
    ∷ founds 2 Editor ∷ founds 3 Editor ∷ []

-- ---- its commands

abbrev pub seen_len : Option PlainClient → ℕ
seen_len None = 0
seen_len (Some c) = length (shown_of c)

-- an author removes the character at its place, or inserts a letter into a text of this length
abbrev pub removes : ℕ → TextEdit
removes author = Remove (record { at = author - 1; count = 1 })

abbrev pub inserts : ℕ → ℕ → ℕ → TextEdit
inserts j author len =
    Insert (record { at = (j * author) % (len + 1); text = (97 + (3 * j + author) % 26) ∷ [] })

-- the edit of an author in batch j: each fifth removes a character, the others insert a letter
abbrev pub generated_edit : ℕ → ℕ → Scene → TextEdit
generated_edit j author scene =
    if j % 5 == 0 then removes author
    else inserts j author (seen_len (scene.world.clients (first_device author)))

abbrev pub edits : ℕ → ℕ → Scene → Command
edits j author scene = commands.Edit
    (record { device = first_device author; seen = None; change = generated_edit j author scene })

abbrev pub submits : ℕ → Scene → Command
submits author scene = commands.Submit (first_device author)

abbrev pub gives : ℕ → ℕ → Scene → Command
gives number member scene =
    commands.Give (record { device = first_device member; position = number; entry = number })

-- a batch behind so many edits: all its authors edit, then all submit, and then the entries are
-- given to all members
abbrev pub batch : ℕ → ℕ → List (Scene → Command)
batch done authors =
    map (edits (done / 3 + 1)) (up_to authors)
    ++ map submits (up_to authors)
    ++ flat_map (λ a. map (gives (done + a)) (up_to 3)) (up_to authors)

-- so many whole batches
abbrev pub batches : ℕ → List (Scene → Command)
batches zero = []
batches (suc n) = batches n ++ batch (3 * n) 3

-- the run of so many edits: the last batch may have fewer authors
abbrev pub generated_commands : ℕ → List (Scene → Command)
generated_commands n = batches (n / 3) ++ batch (3 * (n / 3)) (n % 3)

abbrev pub generated_scene : ℕ → Scene
generated_scene n =
    after_each (setup_of generated_cast) (opening generated_cast) (generated_commands n)

-- ---- its summary

-- clients have one list of chain values, and show one text
abbrev pub AreSame : PlainClient → PlainClient → Type 0
AreSame a b = (hashes_of a ≡ hashes_of b) × (shown_of a ≡ shown_of b)

abbrev pub AllAgree : PlainClient → PlainClient → PlainClient → Type 0
AllAgree a b c = AreSame a b × AreSame a c

-- how the clients of the three members stand to each other, in a word
abbrev pub TellsAgreement : PlainClient → PlainClient → PlainClient → List ℕ → Type 0
TellsAgreement a b c word =
    (AllAgree a b c × (word ≡ codes "same")) ⊎ ((¬ (AllAgree a b c)) × (word ≡ codes "differ"))

abbrev pub summary_line : PlainClient → List ℕ → List ℕ
summary_line c word = codes "clients 3 entries " ++ (decimal (length c.entries)
    ++ (codes " characters " ++ (decimal (length (committed_of c)) ++ (codes " " ++ (word
    ++ (codes " " ++ (encode_lower (hash_of c.opening.genesis c.entries) ++ codes "\n")))))))

-- the line is the summary of a scene
abbrev pub Summarizes : Scene → List ℕ → Type 0
Summarizes scene line = (a : PlainClient) × (b : PlainClient) × (c : PlainClient) × (word : List ℕ)
    × (scene.world.clients (first_device 1) ≡ Some a)
    × (scene.world.clients (first_device 2) ≡ Some b)
    × (scene.world.clients (first_device 3) ≡ Some c)
    × TellsAgreement a b c word × (line ≡ summary_line a word)
