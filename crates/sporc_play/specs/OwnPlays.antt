-- Plays whose entries are all made by clients.
use Rattle.std.specs.Prelude.{List, ⊤}
use Rattle.std.specs.List.{AllByRecursion}
use Rattle.sporc_script.specs.declared.command.Command.{Command}
use Rattle.sporc_script.specs.declared.command.Command.TheVariants as commands
use Rattle.sporc_script.specs.declared.play_line.PlayLine.{PlayLine}

-- a command that makes no entry but by a client's submission
abbrev pub IsByClients : Command → Type 0
IsByClients (commands.Sign f) = ⊥
IsByClients (commands.Flip f) = ⊥
IsByClients (commands.Cut number) = ⊥
IsByClients command = ⊤

-- a script that has no `sign`, `flip` or `cut`
abbrev pub AreByClients : List PlayLine → Type 0
AreByClients script = AllByRecursion (λ l. IsByClients l.command) script
