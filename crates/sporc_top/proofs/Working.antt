-- What a command did, by the words that it is.
use Rattle.std.proofs.Common.{◌≡◌, Result, subst, sym}
use Rattle.sporc_top.proofs.Common.{⊤, DiskTold, Client, Command, Fault, Performs, ServesDocument, ServesDocuments, WorksAsMember, OutsideUse, client_use, Serve, ServeAll}
use Rattle.sporc_words.specs.declared.command.Command.TheVariants as commands
use Rattle.sporc_words.specs.declared.public.Public.{Public}
use Rattle.sporc_top.specs.Performing.{ShowsKey}

module _ {D : Type 0} (disks : D → DiskTold) (outside : OutsideUse) where
  pub by_serve : (asked : Command) (words : Serve) (answer : Result ⊤ Fault) → asked ≡ commands.Serve words
      → ServesDocument words outside.folder outside.out outside.net answer → Performs disks asked outside answer
  by_serve asked words answer is serves = subst (λ (c : Command). Performs disks c outside answer) (sym is) serves

  pub by_public : (asked : Command) (words : Public) (answer : Result ⊤ Fault) → asked ≡ commands.Public words
      → ShowsKey words outside.folder outside.out answer → Performs disks asked outside answer
  by_public asked words answer is shows = subst (λ (c : Command). Performs disks c outside answer) (sym is) shows

  pub by_client : (asked : Command) (words : Client) (answer : Result ⊤ Fault) → asked ≡ commands.Client words → WorksAsMember disks words (client_use outside) answer
      → Performs disks asked outside answer
  by_client asked words answer is works = subst (λ (c : Command). Performs disks c outside answer) (sym is) works

  pub by_serve_all : (asked : Command) (words : ServeAll) (answer : Result ⊤ Fault) → asked ≡ commands.ServeAll words
      → ServesDocuments words outside.folder outside.out outside.net answer → Performs disks asked outside answer
  by_serve_all asked words answer is serves = subst (λ (c : Command). Performs disks c outside answer) (sym is) serves
