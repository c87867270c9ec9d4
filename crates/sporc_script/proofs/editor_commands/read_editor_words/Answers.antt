use Rattle.std.proofs.Common.{option_map, ap, ◌∙◌}
use Rattle.sporc_script.specs.declared.editor_line.EditorCommand.TheVariants as commands
use Rattle.sporc_script.proofs.Keyed.{mapped}
use Rattle.sporc_script.proofs.editor_commands.read_editor_words.Goals.{in-Insert+in_ok-read_insertion-in-Insert, in-Add+in_ok-read_newcomer-in-Add, in-Remove, in-Drop, in-Role, in-Device+in_ok-read_new_device-in-Device, in-DropDevice}
use Rattle.sporc_script.proofs.editor_commands.read_editor_words.Goals as goal

pub returns : goal.returns
returns c =
    elim c.match-word.branch [
      | in-Insert+in_ok-read_insertion-in-Insert w ↦ rw w.in-Insert.is (w.command-is ∙ mapped commands.Insert _ _ w.map-command.ensures.cases ∙ ap (option_map commands.Insert) w.in_ok-read_insertion-in-Insert.ensures.ok)
      | in-Add+in_ok-read_newcomer-in-Add w ↦ rw w.in-Add.is (w.command-is ∙ mapped commands.Add _ _ w.map-command-in-Add.ensures.cases ∙ ap (option_map commands.Add) w.in_ok-read_newcomer-in-Add.ensures)
      | in-Remove w ↦ rw w.in-Remove.is (w.command-is ∙ mapped commands.Remove _ _ w.map-command-in-Remove.ensures.cases ∙ ap (option_map commands.Remove) w.read_removal.ensures.value)
      | in-Drop w ↦ rw w.in-Drop.is (w.command-is ∙ mapped commands.Drop _ _ w.map-command-in-Drop.ensures.cases ∙ ap (option_map commands.Drop) w.parse_member.ensures.value)
      | in-Role w ↦ rw w.in-Role.is (w.command-is ∙ mapped commands.SetRole _ _ w.map-command-in-Role.ensures.cases ∙ ap (option_map commands.SetRole) w.read_member_role.ensures.value)
      | in-Device+in_ok-read_new_device-in-Device w ↦ rw w.in-Device.is (w.command-is ∙ mapped commands.AddDevice _ _ w.map-command-in-Device.ensures.cases ∙ ap (option_map commands.AddDevice) w.in_ok-read_new_device-in-Device.ensures)
      | in-DropDevice w ↦ rw w.in-DropDevice.is (w.command-is ∙ mapped commands.DropDevice _ _ w.map-command-in-DropDevice.ensures.cases ∙ ap (option_map commands.DropDevice) w.read_member_device.ensures.value)
    ]
