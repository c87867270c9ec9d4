-- What a source that tells its bytes calls for.
use Rattle.std.proofs.Common.{◌≡◌, ℕ, ◌+◌, ◌<◌, ◌≤◌, ◌⊎◌, true, List, ◌++◌, length, Option, Some, None, Result, Ok, Err, refl, sym, ap, ◌∙◌, subst, inl, inr, arith, append-nil, length-append}
use Rattle.sporc_top.proofs.Common.{⊤, IsUnwritten, StreamTold, DiskTold, Command, command_of, Fault, WritesFaultLine, status_of, fault_line, Ends, RunOutcome, UnlessCutOff, command, done, no_command}
use Rattle.sporc_top.proofs.Common.{stopped, unread, GeneratedOutcome, Performs, PlaysEdits, PlaysSource, fault_as, fault_of_play, names_of, no_files, OutsideUse, from, until, same_Some, Use}
use Rattle.std.specs.Io.KnownBytes.{Appends, Consumes, IsAtEnd}
use Rattle.sporc_outside.specs.Counts.{Rose}
use Rattle.sporc_outside.specs.Writing.{AppendsPrefix}
use Rattle.sporc_outside.specs.Reading.{ConsumesExactly}
use Rattle.sporc_script.specs.declared.command.Command.{Command as PlayCommand}
use Rattle.sporc_script.specs.declared.play_line.PlayLine.{PlayLine}
use Rattle.sporc_script.specs.Grammar.{IsNext, IsPlayFault, IsPlayScript, play_line}
use Rattle.sporc_script.specs.Lines.{lines_of}
use Rattle.sporc_script.proofs.PlayLines.{next_not_skipped, one_next}
use Rattle.sporc_script.proofs.ScriptLines.{not_both, one_fault, one_reading}
use Rattle.sporc_play.specs.declared.fault.PlayFault.{PlayFault}
use Rattle.sporc_play.specs.declared.fault.PlayFault.TheVariants as playing
use Rattle.sporc_play.specs.declared.playing.TheConstants.{MAX_SCRIPT}
use Rattle.sporc_client.specs.Genuine.{Genuine}
use Rattle.sporc_play.specs.Cast.{has_admin, setup_of}
use Rattle.sporc_play.specs.Moves.{IsOneRun, moves_of}
use Rattle.sporc_play.specs.OwnPlays.{AreByClients}
use Rattle.sporc_play.specs.Playing.{GeneratedFault, HasFaultLine, PlayOutcome, Plays, PlaysGenerated, ReadsWhole}
use Rattle.sporc_play.specs.Report.{Reports}
use Rattle.sporc_play.specs.Scene.{commands_of}
use Rattle.sporc_words.specs.declared.command.Command.TheVariants as commands
use Rattle.sporc_files.specs.declared.fault.Fault.TheVariants as faults
use Rattle.sporc_top.specs.Plays.{IsPlayed}

-- ---- what was read

-- what was read whole is what was left
all_of : (left left' : Option (List ℕ)) (text read : List ℕ) → left ≡ Some text → Consumes left left' read → IsAtEnd left' → read ≡ text
all_of None left' text read tells all ended = cc
all_of (Some xs) None text read tells all ended = absurd all
all_of (Some xs) (Some ys) text read tells all ended =
    sym (sym (same_Some xs text tells) ∙ all ∙ ap (λ zs. read ++ zs) ended ∙ append-nil read)

whole_of : (source : Use StreamTold) (text read : List ℕ) → source.before.left ≡ Some text → ReadsWhole source read → read ≡ text
whole_of source text read tells whole = all_of source.before.left source.after.left text read tells whole.all whole.ended

no_more : (n : ℕ) (left left' : Option (List ℕ)) (text : List ℕ) → left ≡ Some text → ConsumesExactly n left left' → n ≤ length text
no_more n None left' text tells taken = cc
no_more n (Some xs) None text tells taken = absurd taken.2
no_more n (Some xs) (Some ys) text tells taken =
    omega (arith, ap length (same_Some xs text tells), ap length taken.2, length-append taken.0 ys, taken.1)

-- ---- the line of a fault before which nothing was written

told_alone : (out : Use StreamTold) (between : StreamTold) (fault : Fault) → IsUnwritten (until between out)
    → WritesFaultLine (from between out) no_files fault → WritesFaultLine out no_files fault
told_alone out between fault none line = record {
  line = subst (λ (w : Option (List ℕ)). AppendsPrefix w out.after.written (fault_line no_files fault)) none.written line.line;
  whole = λ calm.
      subst (λ (w : Option (List ℕ)). Appends w out.after.written (fault_line no_files fault)) none.written
      (line.whole (subst (λ (n : ℕ). ¬ (Rose n out.after.faults)) (sym none.faults) calm));
}

-- ---- plays

-- the program's fault is that of a play
by_cause : (source : Use StreamTold) (out : Use StreamTold) (fault : Fault) (Q : Fault → Type 0) (played : Result ⊤ PlayFault) → Err fault ≡ fault_as fault_of_play played → PlayOutcome source out played
    → ((cause : PlayFault) → PlayOutcome {T = ⊤} source out (Err cause) → Q (fault_of_play cause)) → Q fault
by_cause source out fault Q (Ok x) same outcome then = absurd cc
by_cause source out fault Q (Err cause) same outcome then =
    let is : fault ≡ fault_of_play cause = cc in
    subst Q (sym is) (then cause outcome)

not_done : (cause : PlayFault) → ¬ (status_of (fault_of_play cause) ≡ 0)
not_done playing.Memory none = absurd cc
not_done cause none = absurd cc

-- a text is a script, whose report was written, and whose play is one run
abbrev IsAgreed : List ℕ → Use StreamTold → Type 0
IsAgreed text out =
    (script : List PlayLine) × IsPlayScript text script × Reports script out.before.written out.after.written
    × (has_admin script ≡ true → IsOneRun script (commands_of script))
    × (has_admin script ≡ true → AreByClients script → Genuine (setup_of script) (moves_of script (commands_of script)))

as_played : (text : List ℕ) (outside : OutsideUse) → IsAgreed text outside.out → (script : List PlayLine) × IsPlayed text script outside
as_played text outside (script, reads, reports, run, genuine) = (script, record { reads = reads; reports = reports; run = run; genuine = genuine })

-- a source that tells its bytes, read for a script
module _ (source : Use StreamTold) (text : List ℕ) (tells : source.before.left ≡ Some text) where
  -- it was read as a script, if it is one
  as_script : (out : Use StreamTold) (script : List PlayLine) → IsPlayScript text script → Plays source out → Reports script out.before.written out.after.written
  as_script out script is (own, reads, written) =
      let same = whole_of source text reads.text tells reads.whole in
      let one = one_reading PlayCommand PlayLine play_line IsNext one_next next_not_skipped (lines_of text) _ 1 own script (subst (λ (t : List ℕ). IsPlayScript t own) same reads.reads) is in
      subst (λ (s : List PlayLine). Reports s out.before.written out.after.written) one written

  agreed_script : (out : Use StreamTold) → Plays source out → IsAgreed text out
  agreed_script out (own, reads, written) =
      (own, subst (λ (t : List ℕ). IsPlayScript t own) (whole_of source text reads.text tells reads.whole) reads.reads, written, reads.one_run, reads.genuine)

  no_fault : (script : List PlayLine) (k : ℕ) → IsPlayScript text script → ¬ (HasFaultLine source k)
  no_fault script k is (read, whole, outside) =
      not_both PlayCommand PlayLine play_line IsNext one_next next_not_skipped (lines_of text) _ 1 script k is (subst (λ (t : List ℕ). IsPlayFault t k) (whole_of source text read tells whole) outside)

  no_script : (out : Use StreamTold) (k : ℕ) → IsPlayFault text k → ¬ (Plays source out)
  no_script out k outside (own, reads, written) =
      not_both PlayCommand PlayLine play_line IsNext one_next next_not_skipped (lines_of text) _ 1 own k
      (subst (λ (t : List ℕ). IsPlayScript t own) (whole_of source text reads.text tells reads.whole) reads.reads) outside

  same_line : (k j : ℕ) → IsPlayFault text k → HasFaultLine source j → j ≡ k
  same_line k j outside (read, whole, found) =
      one_fault PlayCommand PlayLine play_line IsNext one_next next_not_skipped (lines_of text) _ 1 j k
      (subst (λ (t : List ℕ). IsPlayFault t j) (whole_of source text read tells whole) found) outside

  short : (limit : ℕ) → length text ≤ limit → ¬ (ConsumesExactly (limit + 1) source.before.left source.after.left)
  short limit within taken = let more = no_more (limit + 1) source.before.left source.after.left text tells taken in omega (arith, more)

  long : (read : List ℕ) (limit : ℕ) → limit < length text → ReadsWhole source read → length read ≤ limit → ⊥
  long read limit above whole within = let same = whole_of source text read tells whole in omega (arith, ap length same)

  -- a text that is too long is no play
  no_long : (out : Use StreamTold) → MAX_SCRIPT < length text → ¬ (Plays source out)
  no_long out above (own, reads, written) = long reads.text MAX_SCRIPT above reads.whole reads.whole.within

  -- a play that was done
  done_is : (out : Use StreamTold) (played : Result ⊤ PlayFault) → PlayOutcome source out played → Ok tt ≡ fault_as fault_of_play played → Plays source out
  done_is out (Ok x) plays same = plays
  done_is out (Err fault) plays same = absurd cc

  -- by its fault, one that was stopped
  stopped_script : (out : Use StreamTold) (script : List PlayLine) (fault : PlayFault) (P : Type 0) → length text ≤ MAX_SCRIPT → IsPlayScript text script
      → PlayOutcome {T = ⊤} source out (Err fault) → UnlessCutOff (status_of (fault_of_play fault)) P
  stopped_script out script playing.Memory P within is plays = inr (inl refl)
  stopped_script out script (playing.LineFault k) P within is (outside, none) = absurd (no_fault script k is outside)
  stopped_script out script playing.TooLong P within is (taken, none) = absurd (short MAX_SCRIPT within taken)
  stopped_script out script fault P within is plays = inr (inr refl)

  stopped_fault : (out : Use StreamTold) (between : StreamTold) (k : ℕ) (fault : PlayFault) → length text ≤ MAX_SCRIPT → IsPlayFault text k
      → PlayOutcome {T = ⊤} source (until between out) (Err fault) → WritesFaultLine (from between out) no_files (fault_of_play fault)
      → UnlessCutOff (status_of (fault_of_play fault)) ((status_of (fault_of_play fault) ≡ 3) × WritesFaultLine out no_files (faults.Line k))
  stopped_fault out between k playing.Memory within outside plays line = inr (inl refl)
  stopped_fault out between k (playing.LineFault j) within outside (found, none) line =
      inl (refl, subst (λ (n : ℕ). WritesFaultLine out no_files (faults.Line n)) (same_line k j outside found) (told_alone out between (faults.Line j) none line))
  stopped_fault out between k playing.TooLong within outside (taken, none) line = absurd (short MAX_SCRIPT within taken)
  stopped_fault out between k fault within outside plays line = inr (inr refl)

  stopped_long : (out : Use StreamTold) (between : StreamTold) (fault : PlayFault) → MAX_SCRIPT < length text
      → PlayOutcome {T = ⊤} source (until between out) (Err fault) → WritesFaultLine (from between out) no_files (fault_of_play fault)
      → UnlessCutOff (status_of (fault_of_play fault)) ((status_of (fault_of_play fault) ≡ 3) × WritesFaultLine out no_files faults.LongScript)
  stopped_long out between playing.Memory above plays line = inr (inl refl)
  stopped_long out between (playing.LineFault j) above ((read, whole, found), none) line = absurd (long read MAX_SCRIPT above whole whole.within)
  stopped_long out between playing.TooLong above (taken, none) line = inl (refl, told_alone out between faults.LongScript none line)
  stopped_long out between fault above plays line = inr (inr refl)

  -- by its status
  ended_script : (out : Use StreamTold) (script : List PlayLine) (status : ℕ) → length text ≤ MAX_SCRIPT → IsPlayScript text script → Ends (PlaysSource source) no_files out status
      → UnlessCutOff status ((status ≡ 0) × Reports script out.before.written out.after.written)
  ended_script out script status within is (done did) = inl (refl, as_script out script is (done_is out did.played did.outcome did.answer_is))
  ended_script out script status within is (stopped {fault} {between} did since line till) =
      by_cause source (until between out) fault (λ f. UnlessCutOff (status_of f) ((status_of f ≡ 0) × Reports script out.before.written out.after.written)) did.played did.answer_is did.outcome
      (λ cause outcome. stopped_script (until between out) script cause ((status_of (fault_of_play cause) ≡ 0) × Reports script out.before.written out.after.written) within is outcome)

  ended_agreed : (out : Use StreamTold) (status : ℕ) → status ≡ 0 → Ends (PlaysSource source) no_files out status → IsAgreed text out
  ended_agreed out status zero (done did) = agreed_script out (done_is out did.played did.outcome did.answer_is)
  ended_agreed out status zero (stopped {fault} {between} did since line till) =
      absurd (by_cause source (until between out) fault (λ f. ¬ (status_of f ≡ 0)) did.played did.answer_is did.outcome (λ cause outcome. not_done cause) zero)

  ended_fault : (out : Use StreamTold) (k status : ℕ) → length text ≤ MAX_SCRIPT → IsPlayFault text k → Ends (PlaysSource source) no_files out status
      → UnlessCutOff status ((status ≡ 3) × WritesFaultLine out no_files (faults.Line k))
  ended_fault out k status within outside (done did) = absurd (no_script out k outside (done_is out did.played did.outcome did.answer_is))
  ended_fault out k status within outside (stopped {fault} {between} did since line till) =
      by_cause source (until between out) fault
      (λ f. WritesFaultLine (from between out) no_files f → UnlessCutOff (status_of f) ((status_of f ≡ 3) × WritesFaultLine out no_files (faults.Line k)))
      did.played did.answer_is did.outcome (λ cause outcome line. stopped_fault out between k cause within outside outcome line) line

  ended_long : (out : Use StreamTold) (status : ℕ) → MAX_SCRIPT < length text → Ends (PlaysSource source) no_files out status
      → UnlessCutOff status ((status ≡ 3) × WritesFaultLine out no_files faults.LongScript)
  ended_long out status above (done did) = absurd (no_long out above (done_is out did.played did.outcome did.answer_is))
  ended_long out status above (stopped {fault} {between} did since line till) =
      by_cause source (until between out) fault
      (λ f. WritesFaultLine (from between out) no_files f → UnlessCutOff (status_of f) ((status_of f ≡ 3) × WritesFaultLine out no_files faults.LongScript))
      did.played did.answer_is did.outcome (λ cause outcome line. stopped_long out between cause above outcome line) line

-- ---- generated plays

done_edits : (n : ℕ) (out : Use StreamTold) (played : Result ⊤ PlayFault) → GeneratedOutcome n out played → Ok tt ≡ fault_as fault_of_play played → PlaysGenerated n out
done_edits n out (Ok x) outcome same = outcome
done_edits n out (Err fault) outcome same = absurd cc

stopped_cause : (n : ℕ) (out : Use StreamTold) (cause : PlayFault) (P : Type 0) → GeneratedFault n out cause → UnlessCutOff (status_of (fault_of_play cause)) P
stopped_cause n out playing.Memory P fails = inr (inl refl)
stopped_cause n out playing.WriteFault P fails = inr (inr refl)
stopped_cause n out cause P fails = absurd fails

stopped_edits : (n : ℕ) (out : Use StreamTold) (fault : Fault) (P : Type 0) (played : Result ⊤ PlayFault) → GeneratedOutcome n out played → Err fault ≡ fault_as fault_of_play played
    → UnlessCutOff (status_of fault) P
stopped_edits n out fault P (Ok x) outcome same = absurd cc
stopped_edits n out fault P (Err cause) outcome same =
    let is : fault ≡ fault_of_play cause = cc in
    subst (λ (f : Fault). UnlessCutOff (status_of f) P) (sym is) (stopped_cause n out cause P outcome)

ended_edits : (n : ℕ) (out : Use StreamTold) (status : ℕ) → Ends (PlaysEdits n) no_files out status → UnlessCutOff status ((status ≡ 0) × PlaysGenerated n out)
ended_edits n out status (done did) = inl (refl, done_edits n out did.played did.outcome did.answer_is)
ended_edits n out status (stopped {fault} {between} did since line till) =
    stopped_edits n (until between out) fault ((status_of fault ≡ 0) × PlaysGenerated n out) did.played did.outcome did.answer_is

-- ---- runs

-- the words ask for one command
one_command : (words : List (List ℕ)) (asked other : Command) → command_of words ≡ Some asked → command_of words ≡ Some other → asked ≡ other
one_command words asked other is also = cc

-- what comes of a command, or memory ran out before the words were read
by_command : {D : Type 0} (disks : D → DiskTold) (words : List (List ℕ)) (outside : OutsideUse) (status : ℕ) (asked : Command) → RunOutcome disks words outside status
    → command_of words ≡ Some asked → (status ≡ 1) ⊎ Ends (λ out. Performs disks asked (record outside { out = out })) (names_of asked) outside.out status
by_command disks words outside status asked (no_command none unused line) asks = absurd cc
by_command disks words outside status asked (unread unused line) asks = inl refl
by_command disks words outside status asked (command {asked = other} is ends) asks =
    inr (subst (λ (c : Command). Ends (λ out. Performs disks c (record outside { out = out })) (names_of c) outside.out status) (one_command words other asked is asks) ends)

-- what is so of each end of a command, unless it was cut off
unless_unread : {status : ℕ} {E P : Type 0} → (status ≡ 1) ⊎ E → (E → UnlessCutOff status P) → UnlessCutOff status P
unless_unread (inl none) ended = inr (inl none)
unless_unread (inr ends) ended = ended ends

module _ {D : Type 0} (disks : D → DiskTold) (words : List (List ℕ)) (outside : OutsideUse) (status : ℕ) (outcome : RunOutcome disks words outside status) where
  module _ (text : List ℕ) (play : command_of words ≡ Some commands.Play) (tells : outside.source.before.left ≡ Some text) where
    pub on_done : status ≡ 0 → (script : List PlayLine) × IsPlayed text script outside
    on_done zero = elim (by_command disks words outside status commands.Play outcome play) [
      | inl one ↦ absurd (omega (arith, zero, one))
      | inr ends ↦ as_played text outside (ended_agreed outside.source text tells outside.out status zero ends)
    ]

    pub on_script : (script : List PlayLine) → length text ≤ MAX_SCRIPT → IsPlayScript text script
        → UnlessCutOff status ((status ≡ 0) × Reports script outside.out.before.written outside.out.after.written)
    on_script script within is =
        unless_unread (by_command disks words outside status commands.Play outcome play) (λ ends. ended_script outside.source text tells outside.out script status within is ends)

    pub on_fault_line : (line : ℕ) → length text ≤ MAX_SCRIPT → IsPlayFault text line → UnlessCutOff status ((status ≡ 3) × WritesFaultLine outside.out no_files (faults.Line line))
    on_fault_line line within fails =
        unless_unread (by_command disks words outside status commands.Play outcome play) (λ ends. ended_fault outside.source text tells outside.out line status within fails ends)

    pub on_long : MAX_SCRIPT < length text → UnlessCutOff status ((status ≡ 3) × WritesFaultLine outside.out no_files faults.LongScript)
    on_long above =
        unless_unread (by_command disks words outside status commands.Play outcome play) (λ ends. ended_long outside.source text tells outside.out status above ends)

  pub on_generated : (n : ℕ) → command_of words ≡ Some (commands.Generate n) → UnlessCutOff status ((status ≡ 0) × PlaysGenerated n outside.out)
  on_generated n asks =
      unless_unread (by_command disks words outside status (commands.Generate n) outcome asks) (λ ends. ended_edits n outside.out status ends)
