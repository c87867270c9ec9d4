-- A message that a stream gives fits an order's frame.
use Rattle.std.proofs.Common.{◌≡◌, ℕ, ◌≤◌, Bool, true, false, cond, List, length, take, drop, Option, Some, None, Result, Ok, Err, refl, subst, arith, nat_lt, inl, inr}
use Rattle.sporc_serve.proofs.Common.{length-take, length-drop, FrameFault, ToServer, Hello, Submit, Pull, Unread, next_unless, next_frame, next_read, IsFramed, ltb-false, MAX_BODY, FirstFrame}
use Rattle.sporc_serve.proofs.Common.{partial, too_long, whole}
use Rattle.std.proofs.lemmas.Bool.{cases_Bool}
use Rattle.std.specs.Int.{Width, w8, w16, w32, byte_len, from_be_bytes}
use Rattle.sporc_bytes.specs.Fields.{Reading, ◌>>=◌, bytes_at, number_at, end_at, past}
use Rattle.sporc_bytes.proofs.Fields.{bind_ok, ok_is}
use Rattle.sporc_wire.specs.Stream.{frame_of_len, first_frame}
use Rattle.sporc_wire.specs.Messages.{next}
use Rattle.sporc_wire.specs.ToServer.{hello_at, pull_at, to_server_of_kind, to_server_of}

-- ---- the body of a frame

body_fits : (len : ℕ) (bytes body more : List ℕ) → frame_of_len len bytes ≡ whole body more → length body ≤ MAX_BODY
unfolding frame_of_len
body_fits len bytes body more is = go (nat_lt MAX_BODY len) refl (nat_lt (length bytes) len) is
  where
    go : (a : Bool) → nat_lt MAX_BODY len ≡ a → (b : Bool)
        → cond a (too_long len) (cond b partial (whole (take len bytes) (drop len bytes))) ≡ whole body more → length body ≤ MAX_BODY
    go false e false h =
        let same : take len bytes ≡ body = cc in
        subst (λ (l : List ℕ). length l ≤ MAX_BODY) same (omega (arith, ltb-false MAX_BODY len e, length-take len bytes))
    go a e b h = absurd cc

front_fits : (bytes body more : List ℕ) → first_frame bytes ≡ whole body more → length body ≤ MAX_BODY
unfolding first_frame
front_fits bytes body more is = elim (cases_Bool (nat_lt (length bytes) 4)) [
  | inl few ↦ let clash = rw few at is in absurd cc
  | inr enough ↦ body_fits (from_be_bytes w32 (take 4 bytes)) (drop 4 bytes) body more (rw enough at is)
]

-- ---- the message of a body

bytes_rest : (n : ℕ) (r : Reading) (x : List ℕ × Reading) → bytes_at n r ≡ Ok x → length x.1.rest ≤ length r.rest
unfolding bytes_at
bytes_rest n r x is = elim (cases_Bool (nat_lt (length r.rest) n)) [
  | inl few ↦ let clash = rw few at is in absurd cc
  | inr enough ↦ rw (← (ok_is (take n r.rest, past n r) x (rw enough at is))) (omega (arith, length-drop n r.rest))
]

number_rest : (w : Width) (r : Reading) (x : ℕ × Reading) → number_at w r ≡ Ok x → length x.1.rest ≤ length r.rest
unfolding number_at
number_rest w r x is =
    let d = bind_ok (bytes_at (byte_len w) r) (λ bytes. Ok (from_be_bytes w bytes.0, bytes.1)) x is in
    subst (λ (y : ℕ × Reading). length y.1.rest ≤ length r.rest) (ok_is (from_be_bytes w d.0.0, d.0.1) x d.2) (bytes_rest (byte_len w) r d.0 d.1)

hello_framed : (r : Reading) (m : ToServer) → hello_at r ≡ Ok m → IsFramed m
unfolding hello_at
hello_framed r m e =
    let d = bind_ok (bytes_at 16 r) (λ (document : List ℕ × Reading). number_at w16 document.1 >>= λ (member : ℕ × Reading). end_at member.1 >>= λ (end : Unit {0}). Ok (Hello document.0 member.0)) m e in
    let n = bind_ok (number_at w16 d.0.1) (λ (member : ℕ × Reading). end_at member.1 >>= λ (end : Unit {0}). Ok (Hello d.0.0 member.0)) m d.2 in
    let z = bind_ok (end_at n.0.1) (λ (end : Unit {0}). Ok (Hello d.0.0 n.0.0)) m n.2 in
    subst IsFramed (ok_is (Hello d.0.0 n.0.0) m z.2) tt

pull_framed : (r : Reading) (m : ToServer) → pull_at r ≡ Ok m → IsFramed m
unfolding pull_at
pull_framed r m e =
    let n = bind_ok (number_at w32 r) (λ (from : ℕ × Reading). end_at from.1 >>= λ (end : Unit {0}). Ok (Pull from.0)) m e in
    let z = bind_ok (end_at n.0.1) (λ (end : Unit {0}). Ok (Pull n.0.0)) m n.2 in
    subst IsFramed (ok_is (Pull n.0.0) m z.2) tt

one_framed : (a b c : Bool) (r : Reading) (m : ToServer) → length r.rest ≤ MAX_BODY
    → cond a (hello_at r) (cond b (Ok (Submit r.rest)) (cond c (pull_at r) (Err 0))) ≡ Ok m → IsFramed m
one_framed true b c r m fits e = hello_framed r m e
one_framed false true c r m fits e = subst IsFramed (ok_is (Submit r.rest) m e) fits
one_framed false false true r m fits e = pull_framed r m e
one_framed false false false r m fits e = absurd cc

kind_framed : (kind : ℕ) (r : Reading) (m : ToServer) → length r.rest ≤ MAX_BODY → to_server_of_kind kind r ≡ Ok m → IsFramed m
kind_framed kind r m fits e = one_framed _ _ _ r m fits e

to_server_framed : (body : List ℕ) (m : ToServer) → length body ≤ MAX_BODY → to_server_of body ≡ Ok m → IsFramed m
unfolding to_server_of
to_server_framed body m fits e =
    let r : Reading = record { rest = body; at = 0 } in
    let k = bind_ok (number_at w8 r) (λ kind. to_server_of_kind kind.0 kind.1) m e in
    kind_framed k.0.0 k.0.1 m (omega (arith, number_rest w8 r k.0 k.1, fits)) k.2

-- ---- the next message of a stream

pub next_framed : (s : Unread) (m : ToServer) → (next to_server_of s).answer ≡ Ok (Some m) → IsFramed m
unfolding next
next_framed s m is = by_fault s.fault is
  where
    by_read : (len : ℕ) (rest body : List ℕ) → length body ≤ MAX_BODY → (x : Result ToServer ℕ) → to_server_of body ≡ x
        → (next_read s len rest x).answer ≡ Ok (Some m) → IsFramed m
    by_read len rest body fits (Ok n) e h = let same : n ≡ m = cc in subst IsFramed same (to_server_framed body n fits e)
    by_read len rest body fits (Err place) e h = absurd cc

    by_front : (f : FirstFrame) → first_frame s.rest ≡ f → (next_frame to_server_of s f).answer ≡ Ok (Some m) → IsFramed m
    by_front partial e h = absurd cc
    by_front (too_long len) e h = absurd cc
    by_front (whole body rest) e h = by_read (length body) rest body (front_fits s.rest body rest e) (to_server_of body) refl h

    by_fault : (f : Option FrameFault) → (next_unless to_server_of s f).answer ≡ Ok (Some m) → IsFramed m
    by_fault (Some fault) h = absurd cc
    by_fault None h = by_front (first_frame s.rest) refl h
