-- What a comparison found in files, step by step.
use Rattle.std.proofs.Common.{◌≡◌, ℕ, List, [], ◌∷◌, Option, Result, Ok, Err, refl, sym, ap, ◌∙◌, subst, arith}
use Rattle.sporc_commands.proofs.Common.{Vec, ◌>>=◌, Rose, Use, NamedFile, Device, chain, genesis_value, next_value, Genesis, genesis_bytes, Fault, File, FileNames, file_name, IsFileFault, SaysFile}
use Rattle.sporc_commands.proofs.Common.{genesis_file, AnswersUnlessOutside, AnswersOfFile, entries_in, genesis_in, AreOfOneGenesis, Chains, FindsChains, IsVerdictLine, both_chains, chain_in}
use Rattle.sporc_commands.proofs.Common.{chains_in, values_of, CompareOutcome, fails_first, tells_behind, FolderTold, StreamTold}
use Rattle.sporc_bytes.proofs.Fields.{bind_ok}
use Rattle.sporc_hash.specs.Chain.{chain_after}
use Rattle.sporc_files.specs.declared.file.File.TheVariants as files
use Rattle.sporc_files.proofs.ReadFiles.{is_there, reads_none, says, there}

-- both chains, and the second behind the first
abbrev pair_of : List (List ℕ) → List (List ℕ) → Chains
pair_of a b = record { first = a; second = b }

module _ (folder : Use FolderTold) (names : FileNames) (m n : Device) where
  abbrev told : Option (List NamedFile)
  told = folder.before.files

  abbrev Failed : Type 0
  Failed = Rose folder.before.faults folder.after.faults

  -- the second chain, where the genesis and the first one are read
  abbrev with_second : Genesis → Option (List ℕ) → List (List ℕ) → Result Chains Fault
  with_second g second a = chain_in g (files.History n) second >>= λ b. Ok (pair_of a b)

  -- what was read of a history
  abbrev Reads : Genesis → Device → Result (Vec (List ℕ)) Fault → Type 0
  Reads g device r = AnswersOfFile values_of folder (file_name names (files.History device)) r (chain_in g (files.History device))

  pub genesis_fails : (fault : Fault) (r : Result (Vec (List ℕ) × Vec (List ℕ)) Fault) → r ≡ Err fault → IsFileFault genesis_file folder names files.Genesis fault → FindsChains folder names m n r
  genesis_fails fault r is why =
      let first = there told (file_name names (files.History m)) in
      let second = there told (file_name names (files.History n)) in
      let (content, at, tells) = reads_none genesis_file both_chains folder names files.Genesis (λ (g : Genesis). chain_in g (files.History m) first >>= λ a. with_second g second a) fault r is why in (
        record { genesis = content; first = first; second = second },
        record { genesis = at; first = is_there told (file_name names (files.History m)); second = is_there told (file_name names (files.History n)) },
        tells,
      )

  -- a chain that is read where a genesis and maybe another chain were read before
  module _ (g : Genesis) (r : Result (Vec (List ℕ) × Vec (List ℕ)) Fault) (says_g : SaysFile genesis_file told (file_name names files.Genesis) g) where
    pub first_fails : (fault : Fault) → r ≡ Err fault → Reads g m (Err fault) → FindsChains folder names m n r
    first_fails fault is (first, at, tells) =
        let (gc, g_at, g_is) = says genesis_file told (file_name names files.Genesis) files.Genesis g says_g in
        let second = there told (file_name names (files.History n)) in
        let then = fails_first values_of both_chains Failed fault (chain_in g (files.History m) first) (λ a. with_second g second a) tells in
        let all = tells_behind both_chains Failed (Err fault) (genesis_in gc) g (λ (h : Genesis). chain_in h (files.History m) first >>= λ a. with_second h second a) g_is then in (
          record { genesis = gc; first = first; second = second },
          record { genesis = g_at; first = at; second = is_there told (file_name names (files.History n)) },
          subst (λ (o : Result (Vec (List ℕ) × Vec (List ℕ)) Fault). AnswersUnlessOutside both_chains Failed o (chains_in m n (record { genesis = gc; first = first; second = second }))) (sym is) all,
        )

    second_reads : (one : Vec (List ℕ)) (second : Result (Vec (List ℕ)) Fault) → Reads g m (Ok one) → Reads g n second
        → ((b : Option (List ℕ)) → AnswersUnlessOutside values_of Failed second (chain_in g (files.History n) b) → AnswersUnlessOutside both_chains Failed r (with_second g b one.items))
        → FindsChains folder names m n r
    second_reads one second (a, a_at, a_is) (b, b_at, b_tells) then =
        let (gc, g_at, g_is) = says genesis_file told (file_name names files.Genesis) files.Genesis g says_g in
        let two = tells_behind both_chains Failed r (chain_in g (files.History m) a) one.items (λ x. with_second g b x) a_is (then b b_tells) in (
          record { genesis = gc; first = a; second = b },
          record { genesis = g_at; first = a_at; second = b_at },
          tells_behind both_chains Failed r (genesis_in gc) g (λ (h : Genesis). chain_in h (files.History m) a >>= λ x. with_second h b x) g_is two,
        )

    pub second_fails : (fault : Fault) (one : Vec (List ℕ)) → r ≡ Err fault → Reads g m (Ok one) → Reads g n (Err fault) → FindsChains folder names m n r
    second_fails fault one is reads reads' =
        second_reads one (Err fault) reads reads' (λ b tells.
        subst (λ (o : Result (Vec (List ℕ) × Vec (List ℕ)) Fault). AnswersUnlessOutside both_chains Failed o (with_second g b one.items)) (sym is)
        (fails_first values_of both_chains Failed fault (chain_in g (files.History n) b) (λ x. Ok (pair_of one.items x)) tells))

  pub both_read : (g : Genesis) (one other : Vec (List ℕ)) → SaysFile genesis_file told (file_name names files.Genesis) g → Reads g m (Ok one) → Reads g n (Ok other)
      → FindsChains folder names m n (Ok (one, other))
  both_read g one other says_g reads reads' =
      second_reads g (Ok (one, other)) says_g one (Ok other) reads reads' (λ b tells. ap (λ (x : Result (List (List ℕ)) Fault). x >>= λ y. Ok (pair_of one.items y)) tells)

-- chains of one genesis begin with one value
begins : (value : List ℕ) (es : List (List ℕ)) → (rest : List (List ℕ)) × (chain_after value es ≡ value ∷ rest)
unfolding chain_after
begins value [] = ([], refl)
begins value (e ∷ es) = (chain_after (next_value value e) es, refl)

in_chain : (g : Genesis) (file : File) (content : Option (List ℕ)) (a : List (List ℕ)) → chain_in g file content ≡ Ok a → (rest : List (List ℕ)) × (a ≡ genesis_value (genesis_bytes g) ∷ rest)
in_chain g file content a is =
    let (es, es_is, a_is) = bind_ok (entries_in file g.document content) (λ entries. Ok (chain (genesis_bytes g) entries)) a is in
    let (rest, begun) = begins (genesis_value (genesis_bytes g)) es in
    let same : chain (genesis_bytes g) es ≡ a = cc in
    (rest, sym same ∙ begun)

read_chain_is : (folder : Use FolderTold) (name : List ℕ) (g : Genesis) (file : File) (one : Vec (List ℕ)) → AnswersOfFile values_of folder name (Ok one) (chain_in g file)
    → (rest : List (List ℕ)) × (one.items ≡ genesis_value (genesis_bytes g) ∷ rest)
read_chain_is folder name g file one (content, at, is) = in_chain g file content one.items is

pub of_one_genesis : (folder folder' : Use FolderTold) (name name' : List ℕ) (g : Genesis) (file file' : File) (one other : Vec (List ℕ)) → AnswersOfFile values_of folder name (Ok one) (chain_in g file)
    → AnswersOfFile values_of folder' name' (Ok other) (chain_in g file') → AreOfOneGenesis one.items other.items
of_one_genesis folder folder' name name' g file file' one other reads reads' =
    let (rest, is) = read_chain_is folder name g file one reads in
    let (rest', is') = read_chain_is folder' name' g file' other reads' in
    rw (is, is') (record { begun = omega arith; one_genesis = refl })

-- a line about these chains
pub verdict_says : (m n : Device) (a b a' b' : List (List ℕ)) (line line' : List ℕ) → a ≡ a' → b ≡ b' → line' ≡ line → IsVerdictLine m n (record { first = a; second = b }) line
    → IsVerdictLine m n (record { first = a'; second = b' }) line'
verdict_says m n a b a' b' line line' a_is b_is line_is says = rw (← a_is, ← b_is, line_is) says

-- what was done by the names that a command's words give
pub compares : {T : Type 0} (m n : Device) (given names : FileNames) → given ≡ names → (folder : Use FolderTold) (out : Use StreamTold) (answer : Result T Fault)
    → CompareOutcome given m n folder out answer → CompareOutcome names m n folder out answer
compares m n given names same folder out answer = subst (λ (by : FileNames). CompareOutcome by m n folder out answer) same
