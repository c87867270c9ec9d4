-- What an answer of the codec says, in the words of the stream.
use Rattle.std.proofs.Common.{◌≡◌, ℕ, ◌≤◌, List, [], ◌∷◌, ◌++◌, length, take, drop, Result, Option, IfOk, IfNone, Some, None, Ok, Err, refl, sym, ap, ◌∙◌, subst, inl, inr, ◌⊎◌, arith, pos, append-nil}
use Rattle.sporc_wire.proofs.Common.{cases_lt, length-take-le, IsBytes, MAX_BODY, first_frame, partial, too_long, whole, CutsFirst, FitsLimit, IsOurs, IsWithin, filled, our_layout, put_back, rest_of}
use Rattle.sporc_wire.proofs.Common.{cut_payload_whole, cut_payload_short, Filled, DecodeState, Head, Data, layout, codec_layout, with_state, Cut, frame, too_big, overflows, unfinished, cut_in, cut}
use Rattle.sporc_wire.proofs.Common.{Answers, AnswersLast, AnswersAtEnd, IsSettled, gives_frames}
use Rattle.std.specs.declared.io.Error.{Error}
use Rattle.std.specs.declared.io.ErrorKind.TheVariants.{InvalidData, OutOfMemory, Other}
use Rattle.std.specs.IoError.{error_kind, kind_at}
use Rattle.tokio_util.specs.declared.codec.length_delimited.LengthDelimitedCodec.{LengthDelimitedCodec}
use Rattle.tokio_util.specs.Codec.Next.{Decodes, Resumes, at_end}
use Rattle.sporc_wire.specs.declared.cutter.CutFault.{CutFault}
use Rattle.sporc_wire.specs.declared.cutter.CutFault.TheVariants.{Memory, TooLong}
use Rattle.sporc_wire.specs.Stream as stream
use Rattle.sporc_wire.proofs.Cuts.{head_of, Means, cut_means, head_means, payload_means}

pub cut_is : (c : LengthDelimitedCodec) (xs : List ℕ) → IsBytes xs → IsOurs c → Means c.state xs (cut c xs)
cut_is c xs fits ours =
    subst (λ l. Means c.state xs (cut_in l c.state xs)) (sym ours.layout) (cut_means c.state xs fits ours.within)

pub some_of : (c t : LengthDelimitedCodec) (xs ys : List ℕ) (b : Filled) (cu : Cut) → Means c.state xs cu → Answers c xs cu (Ok b) t ys
    → (length b.items ≤ MAX_BODY) × (rest_of c.state xs ≡ stream.frame b.items ++ ys) × (first_frame (rest_of c.state xs) ≡ whole b.items ys) × (t ≡ with_state c Head)
some_of c t xs ys b (frame payload rest) m a =
    subst (λ (zs : List ℕ). (length zs ≤ MAX_BODY) × (rest_of c.state xs ≡ stream.frame zs ++ ys) × (first_frame (rest_of c.state xs) ≡ whole zs ys) × (t ≡ with_state c Head)) (sym a.0)
    (m.0, m.1 ∙ ap (λ zs. stream.frame payload ++ zs) (sym a.2), m.2 ∙ ap (whole payload) (sym a.2), a.1)
some_of c t xs ys b too_big m a = absurd a
some_of c t xs ys b overflows m a = absurd a
some_of c t xs ys b (unfinished state kept) m a = absurd a

-- an error whose kind is `Other`
some_error : Error
some_error = record { repr = 0; kind = 40; len = 0; code = pos 0; message = record { 0 = 0; 1 = 0; 2 = 0; 3 = 0; 4 = 0; 5 = 0; 6 = 0; 7 = 0; 8 = 0; 9 = 0 } }

some_error_is : error_kind some_error ≡ Other
unfolding some_error kind_at
some_error_is = refl

last_of : (state : DecodeState) (ys : List ℕ) → (r : Result (Option Filled) Error) × AnswersLast state ys r
last_of Head [] = (Ok None, (refl, refl))
last_of Head (y ∷ ys) = (Err some_error, (some_error_is, λ h. let e : y ∷ ys ≡ [] = h.1 in cc))
last_of (Data n) ys = (Err some_error, (some_error_is, λ h. let e : Data n ≡ Head = h.0 in cc))

-- nothing is lost where the codec waits
abbrev pub Waits : LengthDelimitedCodec → List ℕ → LengthDelimitedCodec → List ℕ → Type 0
Waits c xs t ys = IsOurs t × (rest_of t.state ys ≡ rest_of c.state xs) × (first_frame (rest_of c.state xs) ≡ partial)

at_end_of : (c t : LengthDelimitedCodec) (xs ys : List ℕ) (r : Result (Option Filled) Error) (cu : Cut) → IsOurs c → Means c.state xs cu → AnswersAtEnd c cu r t ys → Waits c xs t ys
at_end_of c t xs ys r (frame payload rest) ours m a = absurd a
at_end_of c t xs ys r too_big ours m a = absurd a
at_end_of c t xs ys r overflows ours m a = absurd a
at_end_of c t xs ys r (unfinished state kept) ours m a =
    subst (λ (u : LengthDelimitedCodec). Waits c xs u ys) (sym a.1)
    (subst (λ (zs : List ℕ). Waits c xs (with_state c state) zs) (sym a.2)
    (record { layout = ours.layout; within = m.0 }, m.1, m.2))

pub none_of : (c t : LengthDelimitedCodec) (xs ys : List ℕ) → IsBytes xs → IsOurs c → IsSettled t ys → Resumes gives_frames c xs t ys → Waits c xs t ys
none_of c t xs ys fits ours settled resumes =
    let last = last_of t.state ys in
    let here : gives_frames t (ys ++ []) (at_end last.0 t ys) =
    subst (λ (zs : List ℕ). gives_frames t zs (at_end last.0 t ys)) (sym (append-nil ys))
    (subst (λ (cu : Cut). AnswersAtEnd t cu last.0 t ys) (sym settled) (last.1, refl, refl)) in
    let there : gives_frames c xs (at_end last.0 t ys) =
    subst (λ (zs : List ℕ). gives_frames c zs (at_end last.0 t ys)) (append-nil xs) (resumes [] (at_end last.0 t ys) here) in
    at_end_of c t xs ys last.0 (cut c xs) ours (cut_is c xs fits ours) there

framed_of : (state : DecodeState) (ys payload rest : List ℕ) → IsBytes ys → length payload ≤ MAX_BODY → cut_in our_layout state ys ≡ frame payload rest
    → IsWithin state × (rest_of state ys ≡ stream.frame payload ++ rest)
framed_of Head ys payload rest fits small e =
    let means : Means Head ys (frame payload rest) = subst (Means Head ys) e (head_means ys fits) in (tt, means.1)
framed_of (Data n) ys payload rest fits small e =
    elim (cases_lt (length ys) n) [
      | inl short ↦ let no : unfinished (Data n) ys ≡ frame payload rest = sym (cut_payload_short n ys short) ∙ e in cc
      | inr long ↦
          let same : frame (take n ys) (drop n ys) ≡ frame payload rest = sym (cut_payload_whole n ys long) ∙ e in
          let taken : take n ys ≡ payload = cc in
          let len : length (take n ys) ≡ n = length-take-le n ys long in
          let within : n ≤ MAX_BODY = omega (arith, ap length taken) in
          let means : Means (Data n) ys (frame payload rest) = subst (Means (Data n) ys) e (payload_means n ys (omega arith) within) in
          (within, means.1)
    ]

-- what an error leaves, and why it comes
pub record Fails (c : LengthDelimitedCodec) (xs : List ℕ) (e : Error) (t : LengthDelimitedCodec) (ys : List ℕ) : Type 0 where
  pub ours : IsOurs t
  pub same : rest_of t.state ys ≡ rest_of c.state xs
  pub kind : (error_kind e ≡ InvalidData) ⊎ (error_kind e ≡ OutOfMemory)
  pub long : error_kind e ≡ InvalidData → 4 ≤ length ys
  pub cause : error_kind e ≡ InvalidData → first_frame (rest_of c.state xs) ≡ too_long (head_of ys)

pub err_of : (c t : LengthDelimitedCodec) (xs ys : List ℕ) (e : Error) (cu : Cut) → IsBytes ys → IsOurs c → Means c.state xs cu → Answers c xs cu (Err e) t ys → Fails c xs e t ys
err_of c t xs ys e (frame payload rest) fits ours m a =
    let laid : codec_layout t ≡ our_layout = ap layout a.1 ∙ ours.layout in
    let framed = framed_of t.state ys payload rest fits m.0 (ap (λ l. cut_in l t.state ys) (sym laid) ∙ a.2) in
    let kind : error_kind e ≡ OutOfMemory = a.0 in
    record {
      ours = record { layout = laid; within = framed.0 };
      same = framed.1 ∙ sym m.1;
      kind = inr kind;
      long = λ k. let no : OutOfMemory ≡ InvalidData = sym kind ∙ k in cc;
      cause = λ k. let no : OutOfMemory ≡ InvalidData = sym kind ∙ k in cc;
    }
err_of c t xs ys e too_big fits ours m a =
    subst (λ (u : LengthDelimitedCodec). Fails c xs e u ys) (sym a.1)
    (subst (λ (zs : List ℕ). Fails c xs e c zs) (sym a.2)
    (record {
      ours = ours;
      same = refl;
      kind = inl a.0;
      long = λ _. m.0;
      cause = λ _. m.1;
    }))
err_of c t xs ys e overflows fits ours m a = absurd m
err_of c t xs ys e (unfinished state kept) fits ours m a = absurd a

-- what `decode` says of the stream
abbrev pub Says : LengthDelimitedCodec → List ℕ → Result (Option Filled) Error → LengthDelimitedCodec → List ℕ → Type 0
Says c xs (Ok (Some b)) t ys = IsOurs t × (length b.items ≤ MAX_BODY) × (rest_of c.state xs ≡ stream.frame b.items ++ rest_of t.state ys) × (first_frame (rest_of c.state xs) ≡ whole b.items (rest_of t.state ys))
Says c xs (Ok None) t ys = Waits c xs t ys
Says c xs (Err e) t ys = Fails c xs e t ys

pub says : (c t : LengthDelimitedCodec) (xs ys : List ℕ) → IsBytes xs → IsBytes ys → IsOurs c → (r : Result (Option Filled) Error)
    → Decodes gives_frames c xs r t ys → IfOk r (λ found. IfNone found (IsSettled t ys)) → Says c xs r t ys
says c t xs ys fits fits' ours (Ok (Some b)) d settled =
    let some = some_of c t xs ys b (cut c xs) (cut_is c xs fits ours) d in
    subst (λ (u : LengthDelimitedCodec). Says c xs (Ok (Some b)) u ys) (sym some.3)
    (record { layout = ours.layout; within = tt }, some.0, some.1, some.2)
says c t xs ys fits fits' ours (Ok None) d settled = none_of c t xs ys fits ours settled d.1
says c t xs ys fits fits' ours (Err e) d settled = err_of c t xs ys e (cut c xs) fits' ours (cut_is c xs fits ours) d

pub says_ours : (c t : LengthDelimitedCodec) (xs ys : List ℕ) (found : Option Filled) → Says c xs (Ok found) t ys → IsOurs t
says_ours c t xs ys (Some b) h = h.0
says_ours c t xs ys None h = h.0

pub says_fits : (c t : LengthDelimitedCodec) (xs ys : List ℕ) (found : Option Filled) → Says c xs (Ok found) t ys → FitsLimit found
says_fits c t xs ys (Some b) h = h.1
says_fits c t xs ys None h = tt

pub says_same : (c t : LengthDelimitedCodec) (xs ys : List ℕ) (found : Option Filled) → Says c xs (Ok found) t ys
    → put_back (filled found) (rest_of t.state ys) ≡ rest_of c.state xs
says_same c t xs ys (Some b) h = sym h.2
says_same c t xs ys None h = h.1

pub says_front : (c t : LengthDelimitedCodec) (xs ys : List ℕ) (found : Option Filled) → Says c xs (Ok found) t ys
    → CutsFirst (rest_of c.state xs) (filled found) (rest_of t.state ys)
says_front c t xs ys (Some b) h = h.3
says_front c t xs ys None h = h.2

-- and of the code's results
pub says_err : (c t : LengthDelimitedCodec) (xs ys : List ℕ) (e : Error) → IsBytes xs → IsBytes ys → IsOurs c → Answers c xs (cut c xs) (Err e) t ys → Fails c xs e t ys
says_err c t xs ys e fits fits' ours d = err_of c t xs ys e (cut c xs) fits' ours (cut_is c xs fits ours) d

-- the length that a fault tells
pub same_length : {T : Type 0} (m n : ℕ) → ◌≡◌ {A = Result T CutFault} (Err (TooLong m)) (Err (TooLong n)) → m ≡ n
same_length m n e = cc

pub no_length : {T : Type 0} (n : ℕ) → ◌≡◌ {A = Result T CutFault} (Err Memory) (Err (TooLong n)) → ⊥
no_length n e = absurd cc
