use Rattle.std.proofs.Common.{option_map, ap, ◌∙◌}
use Rattle.sporc_script.specs.declared.command.Command.TheVariants as commands
use Rattle.sporc_script.proofs.Keyed.{mapped}
use Rattle.sporc_script.proofs.commands.read_words.Goals.{in-Tree, in-Member, in-Rogue, in-Joiner, in-Unpaired, in-Edit+in_ok-read_edit-in-Edit, in-Change, in-Discard, in-Submit, in-Give, in-Restart, in-Join+in_ok-read_join-in-Join, in-Show, in-Members, in-Hash, in-Journal, in-Compare, in-Flip, in-Cut, in-Sign+in_ok-read_forgery-in-Sign, in-Device}
use Rattle.sporc_script.proofs.commands.read_words.Goals as goal

pub returns : goal.returns
returns c =
    elim c.match-keyword.branch [
      | in-Tree w ↦ rw w.in-Tree.is (w.command-is ∙ mapped commands.Tree _ _ w.map-command.ensures.cases ∙ ap (option_map commands.Tree) w.read_tree.ensures.value)
      | in-Member w ↦ rw w.in-Member.is (w.command-is ∙ mapped commands.Member _ _ w.map-command-in-Member.ensures.cases ∙ ap (option_map commands.Member) w.read_member_role.ensures.value)
      | in-Rogue w ↦ rw w.in-Rogue.is (w.command-is ∙ mapped commands.Rogue _ _ w.map-command-in-Rogue.ensures.cases ∙ ap (option_map commands.Rogue) w.read_member_role-in-Rogue.ensures.value)
      | in-Joiner w ↦ rw w.in-Joiner.is (w.command-is ∙ mapped commands.Joiner _ _ w.map-command-in-Joiner.ensures.cases ∙ ap (option_map commands.Joiner) w.parse_member.ensures.value)
      | in-Unpaired w ↦ rw w.in-Unpaired.is (w.command-is ∙ mapped commands.Unpaired _ _ w.map-command-in-Unpaired.ensures.cases ∙ ap (option_map commands.Unpaired) w.read_two_members.ensures.value)
      | in-Edit+in_ok-read_edit-in-Edit w ↦ rw w.in-Edit.is (w.command-is ∙ mapped commands.Edit _ _ w.map-command-in-Edit.ensures.cases ∙ ap (option_map commands.Edit) w.in_ok-read_edit-in-Edit.ensures.ok)
      | in-Change w ↦ rw w.in-Change.is (w.command-is ∙ mapped commands.Change _ _ w.map-command-in-Change.ensures.cases ∙ ap (option_map commands.Change) w.read_roster_edit.ensures.value)
      | in-Discard w ↦ rw w.in-Discard.is (w.command-is ∙ mapped commands.Discard _ _ w.map-command-in-Discard.ensures.cases ∙ ap (option_map commands.Discard) w.parse_device.ensures.value)
      | in-Submit w ↦ rw w.in-Submit.is (w.command-is ∙ mapped commands.Submit _ _ w.map-command-in-Submit.ensures.cases ∙ ap (option_map commands.Submit) w.parse_device-in-Submit.ensures.value)
      | in-Give w ↦ rw w.in-Give.is (w.command-is ∙ mapped commands.Give _ _ w.map-command-in-Give.ensures.cases ∙ ap (option_map commands.Give) w.read_give.ensures.value)
      | in-Restart w ↦ rw w.in-Restart.is (w.command-is ∙ mapped commands.Restart _ _ w.map-command-in-Restart.ensures.cases ∙ ap (option_map commands.Restart) w.read_restart.ensures.value)
      | in-Join+in_ok-read_join-in-Join w ↦ rw w.in-Join.is (w.command-is ∙ mapped commands.Join _ _ w.map-command-in-Join.ensures.cases ∙ ap (option_map commands.Join) w.in_ok-read_join-in-Join.ensures.ok)
      | in-Show w ↦ rw w.in-Show.is (w.command-is ∙ mapped commands.Show _ _ w.map-command-in-Show.ensures.cases ∙ ap (option_map commands.Show) w.parse_device-in-Show.ensures.value)
      | in-Members w ↦ rw w.in-Members.is (w.command-is ∙ mapped commands.Members _ _ w.map-command-in-Members.ensures.cases ∙ ap (option_map commands.Members) w.parse_device-in-Members.ensures.value)
      | in-Hash w ↦ rw w.in-Hash.is (w.command-is ∙ mapped commands.Hash _ _ w.map-command-in-Hash.ensures.cases ∙ ap (option_map commands.Hash) w.parse_device-in-Hash.ensures.value)
      | in-Journal w ↦ rw w.in-Journal.is (w.command-is ∙ mapped commands.Journal _ _ w.map-command-in-Journal.ensures.cases ∙ ap (option_map commands.Journal) w.parse_device-in-Journal.ensures.value)
      | in-Compare w ↦ rw w.in-Compare.is (w.command-is ∙ mapped commands.Compare _ _ w.map-command-in-Compare.ensures.cases ∙ ap (option_map commands.Compare) w.read_two_devices.ensures.value)
      | in-Flip w ↦ rw w.in-Flip.is (w.command-is ∙ mapped commands.Flip _ _ w.map-command-in-Flip.ensures.cases ∙ ap (option_map commands.Flip) w.read_flip.ensures.value)
      | in-Cut w ↦ rw w.in-Cut.is (w.command-is ∙ mapped commands.Cut _ _ w.map-command-in-Cut.ensures.cases ∙ ap (option_map commands.Cut) w.parse_u64.ensures.value)
      | in-Sign+in_ok-read_forgery-in-Sign w ↦ rw w.in-Sign.is (w.command-is ∙ mapped commands.Sign _ _ w.map-command-in-Sign.ensures.cases ∙ ap (option_map commands.Sign) w.in_ok-read_forgery-in-Sign.ensures.ok)
      | in-Device w ↦ rw w.in-Device.is (w.command-is ∙ mapped commands.Device _ _ w.map-command-in-Device.ensures.cases ∙ ap (option_map commands.Device) w.read_further_device.ensures.value)
    ]
