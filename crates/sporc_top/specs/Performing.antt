-- What each command does.
use Rattle.std.specs.Prelude.{◌≡◌, ◌≤◌, ℕ, List, [], ◌∷◌, length, map, Result, Ok, Err, ⊤}
use Rattle.sporc_bytes.specs.Fields.{fault_as}
use Rattle.sporc_outside.specs.Uses.{Use}
use Rattle.sporc_outside.specs.Streams.{IsUnwritten, StreamTold}
use Rattle.sporc_outside.specs.Folders.{FolderTold}
use Rattle.sporc_outside.specs.Chances.{ChanceTold}
use Rattle.sporc_outside.specs.Nets.{AreShutBehind, NetTold}
use Rattle.sporc_outside.specs.LeafDisk.{DiskTold}
use Rattle.sporc_words.specs.declared.client.Client.{Client}
use Rattle.sporc_words.specs.declared.command.Command.{Command}
use Rattle.sporc_words.specs.declared.command.Command.TheVariants as commands
use Rattle.sporc_words.specs.declared.found.Found.{Found}
use Rattle.sporc_words.specs.declared.keygen.Keygen.{Keygen}
use Rattle.sporc_words.specs.declared.pages.TheConstants.{VERSION}
use Rattle.sporc_words.specs.declared.public.Public.{Public}
use Rattle.sporc_words.specs.declared.serve.Serve.{Serve}
use Rattle.sporc_words.specs.declared.serve_all.ServeAll.{ServeAll}
use Rattle.sporc_words.specs.Pages.{page_text}
use Rattle.sporc_play.specs.declared.fault.PlayFault.{PlayFault}
use Rattle.sporc_play.specs.declared.fault.PlayFault.TheVariants as playing
use Rattle.sporc_play.specs.Playing.{GeneratedFault, PlayOutcome, PlaysGenerated}
use Rattle.sporc_files.specs.declared.fault.Fault.{Fault}
use Rattle.sporc_files.specs.declared.fault.Fault.TheVariants as faults
use Rattle.sporc_files.specs.declared.file.File.{File}
use Rattle.sporc_files.specs.declared.file.File.TheVariants as files
use Rattle.sporc_files.specs.Names.{FileNames, file_name, names_of_document, names_of_documents}
use Rattle.sporc_files.specs.Uses.{AsksAtMost, AsksOnly, OnlyReads}
use Rattle.sporc_commands.specs.Founding.{FoundOutcome, found_files}
use Rattle.sporc_commands.specs.KeyMaking.{KeygenOutcome}
use Rattle.sporc_commands.specs.KeyShowing.{PublicOutcome}
use Rattle.sporc_commands.specs.Lines.{Prints}
use Rattle.sporc_commands.specs.Outcomes.{CheckOutcome, CompareOutcome, EntriesOutcome}
use Rattle.sporc_commands.specs.Outcomes.{TextOutcome}
use Rattle.sporc_hosting.specs.Outcomes.{ServeOutcome}
use Rattle.sporc_hosting.specs.Hosting.{ServeAllOutcome}
use Rattle.sporc_hosting.specs.Loading.{files_of_all}
use Rattle.sporc_clients.specs.Outcome.{ClientOutcome, ClientUse, client_files}
use Rattle.sporc_clients.specs.Outcome.{names_of as names_of_client}
use Rattle.sporc_top.specs.Uses.{OutsideUse, client_use}

-- ---- names

-- no file has a name
abbrev pub no_files : FileNames
no_files = names_of_document []

-- what the files of a command are named by
abbrev pub names_of : Command → FileNames
names_of commands.Play = no_files
names_of (commands.Generate edits) = no_files
names_of (commands.Keygen words) = names_of_document words.name
names_of (commands.Found words) = names_of_document words.name
names_of (commands.Serve words) = names_of_document words.name
names_of (commands.Client words) = names_of_client words
names_of (commands.Check words) = names_of_document words.name
names_of (commands.Compare words) = names_of_document words.name
names_of (commands.Help page) = no_files
names_of commands.Version = no_files
names_of (commands.Public words) = names_of_document words.name
names_of (commands.Text words) = names_of_document words.name
names_of (commands.Entries words) = names_of_document words.name
names_of (commands.ServeAll words) = names_of_documents words.names

-- of all files, the names of these alone were asked for
abbrev pub AsksFor : FileNames → List File → Use FolderTold → Type 0
AsksFor names asked folder =
    AsksOnly (map (file_name names) asked) folder.before.asked folder.after.asked

-- ---- plays

-- what the fault of a play is for the program
abbrev pub fault_of_play : PlayFault → Fault
fault_of_play playing.Memory = faults.Memory
fault_of_play playing.ReadFault = faults.Outside
fault_of_play playing.WriteFault = faults.Outside
fault_of_play (playing.LineFault line) = faults.Line line
fault_of_play playing.TooLong = faults.LongScript

-- the script of the source was played
pub record PlaysSource (source : Use StreamTold) (out : Use StreamTold)
    (answer : Result ⊤ Fault) : Type 0 where
  pub played : Result ⊤ PlayFault
  pub outcome : PlayOutcome source out played
  pub answer_is : answer ≡ fault_as fault_of_play played

-- what a generated play did, by its answer
abbrev pub GeneratedOutcome : ℕ → Use StreamTold → Result ⊤ PlayFault → Type 0
GeneratedOutcome edits out (Ok done) = PlaysGenerated edits out
GeneratedOutcome edits out (Err fault) = GeneratedFault edits out fault

-- the generated run of so many edits was played
pub record PlaysEdits (edits : ℕ) (out : Use StreamTold) (answer : Result ⊤ Fault) : Type 0 where
  pub played : Result ⊤ PlayFault
  pub outcome : GeneratedOutcome edits out played
  pub answer_is : answer ≡ fault_as fault_of_play played

-- ---- keys and documents

-- a key was made, of two files alone
pub record MakesKey (words : Keygen) (folder : Use FolderTold) (chance : Use ChanceTold)
    (out : Use StreamTold) (answer : Result ⊤ Fault) : Type 0 where
  pub outcome : KeygenOutcome words folder chance out answer
  pub may_ask : AsksFor (names_of_document words.name)
      (files.Key words.device ∷ files.Leaf words.device ∷ []) folder

-- the public key of a key that is there was printed, and one file alone was read
pub record ShowsKey (words : Public) (folder : Use FolderTold) (out : Use StreamTold)
    (answer : Result ⊤ Fault) : Type 0 where
  pub outcome : PublicOutcome words folder out answer
  pub reads : OnlyReads (names_of_document words.name) (files.Key words.device ∷ []) folder

-- a document was founded, of the files alone that its words name, and nothing was written of that
pub record FoundsDocument (words : Found) (folder : Use FolderTold) (chance : Use ChanceTold)
    (out : Use StreamTold) (answer : Result ⊤ Fault) : Type 0 where
  pub outcome : FoundOutcome words folder chance answer
  pub may_ask : AsksFor (names_of_document words.name) (found_files words.participants) folder
  pub unwritten : IsUnwritten out

-- ---- a net

-- sessions were served at the address alone, from three files alone, and each link that came back
-- is shut
pub record ServesDocument (words : Serve) (folder : Use FolderTold) (out : Use StreamTold)
    (net : Use NetTold) (answer : Result ⊤ Fault) : Type 0 where
  pub outcome : ServeOutcome (names_of_document words.name) words.sessions words.times
      folder out net.before net.after answer
  pub files_may_ask : AsksFor (names_of_document words.name)
      (files.Genesis ∷ files.Tail ∷ files.Log ∷ []) folder
  pub net_may_ask : AsksAtMost words.times net.before.asked net.after.asked words.address
  pub shut : AreShutBehind net.before.returned net.after.returned

-- sessions of several documents were served at the address alone, from three files of each alone,
-- and each link that came back is shut
pub record ServesDocuments (words : ServeAll) (folder : Use FolderTold) (out : Use StreamTold)
    (net : Use NetTold) (answer : Result ⊤ Fault) : Type 0 where
  pub outcome : ServeAllOutcome words.names words.sessions words.times folder out
      net.before net.after answer
  pub files_may_ask : AsksOnly (files_of_all words.names) folder.before.asked folder.after.asked
  pub net_may_ask : AsksAtMost words.times net.before.asked net.after.asked words.address
  pub shut : AreShutBehind net.before.returned net.after.returned

-- a member's device worked from its own files and its editors' scripts alone, with the server at
-- the address alone, over at most two links, each of which came back shut
pub record WorksAsMember {D : Type 0} (disks : D → DiskTold) (words : Client) (did : ClientUse)
    (answer : Result ⊤ Fault) : Type 0 where
  pub outcome : ClientOutcome disks words did answer
  pub files_may_ask : AsksFor (names_of_client words)
      (client_files words.device (length words.scripts)) did.folder
  pub net_may_ask : AsksAtMost 2 did.net.before.asked did.net.after.asked words.address
  pub shut : AreShutBehind did.net.before.returned did.net.after.returned
  pub links_kept : did.net.before.link_faults ≤ did.net.after.link_faults

-- ---- commands

-- what a command did with what is outside, by its answer
module _ {D : Type 0} (disks : D → DiskTold) where
  abbrev pub Performs : Command → OutsideUse → Result ⊤ Fault → Type 0
  Performs commands.Play outside answer = PlaysSource outside.source outside.out answer
  Performs (commands.Generate edits) outside answer = PlaysEdits edits outside.out answer
  Performs (commands.Keygen words) outside answer =
      MakesKey words outside.folder outside.chance outside.out answer
  Performs (commands.Found words) outside answer =
      FoundsDocument words outside.folder outside.chance outside.out answer
  Performs (commands.Serve words) outside answer =
      ServesDocument words outside.folder outside.out outside.net answer
  Performs (commands.Client words) outside answer =
      WorksAsMember disks words (client_use outside) answer
  Performs (commands.Check words) outside answer =
      CheckOutcome (names_of_document words.name) words.device outside.folder outside.out answer
  Performs (commands.Compare words) outside answer = CompareOutcome
      (names_of_document words.name) words.first words.second outside.folder outside.out answer
  Performs (commands.Help page) outside answer = Prints outside.out (page_text page) answer
  Performs commands.Version outside answer = Prints outside.out VERSION.now answer
  Performs (commands.Public words) outside answer = ShowsKey words outside.folder outside.out answer
  Performs (commands.Text words) outside answer = TextOutcome
      (names_of_document words.name) words.device words.at outside.folder outside.out answer
  Performs (commands.Entries words) outside answer = EntriesOutcome
      (names_of_document words.name) words.device words.from outside.folder outside.out answer
  Performs (commands.ServeAll words) outside answer =
      ServesDocuments words outside.folder outside.out outside.net answer
