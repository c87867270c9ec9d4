-- One step of the walk back through the epochs.
use Rattle.std.proofs.Common.{◌≡◌, ℕ, true, false, cond, List, [], ◌∷◌, ◌++◌, reverse, refl, ap, ◌∙◌}
use Rattle.sporc_epoch.proofs.Common.{Result, Ok, Err, insert, mask_of, EpochStart, Keys, previous_stream, is_of, is_committed, ring_of, reverse-append, WrongKey}
use Rattle.sporc_epoch.specs.declared.fault.HintFault.{HintFault}
use Rattle.sporc_epoch.specs.Hints.{with_key, keys_back}

-- the last of some starts is the first from the end
popped : (starts before : List EpochStart) (start : EpochStart) → starts ≡ before ++ start ∷ [] → reverse starts ≡ start ∷ reverse before
popped starts before start h = ap reverse h ∙ reverse-append before (start ∷ [])

ring_of-with_key : (ring : Keys) (epoch : ℕ) (key : List ℕ) (keys : Result (List (ℕ × List ℕ)) HintFault)
    → ring_of ring (with_key epoch key keys) ≡ ring_of (insert ring epoch key) keys
ring_of-with_key ring epoch key (Ok keys) = refl
ring_of-with_key ring epoch key (Err fault) = refl

-- no start is left
pub walked : (ring : Keys) (epoch : ℕ) (key : List ℕ) (starts : List EpochStart) → starts ≡ []
    → ring_of ring (keys_back epoch key (reverse starts)) ≡ Ok (insert ring epoch key)
unfolding keys_back
walked ring epoch key starts h = ap (λ (ss : List EpochStart). ring_of ring (keys_back epoch key (reverse ss))) h

-- a start of another epoch
pub passed_over : (ring : Keys) (epoch : ℕ) (key : List ℕ) (starts before : List EpochStart) (start : EpochStart) → starts ≡ before ++ start ∷ []
    → is_of start epoch ≡ false
    → ring_of ring (keys_back epoch key (reverse starts)) ≡ ring_of ring (keys_back epoch key (reverse before))
unfolding keys_back
passed_over ring epoch key starts before start h other =
    ap (λ ss. ring_of ring (keys_back epoch key ss)) (popped starts before start h)
    ∙ ap (λ b. ring_of ring (cond b (cond (is_committed start epoch key) (with_key epoch key (keys_back start.ended (mask_of key (previous_stream epoch) start.previous) (reverse before))) (Err (WrongKey epoch))) (keys_back epoch key (reverse before)))) other

-- a start of the epoch
of_epoch : (epoch : ℕ) (key : List ℕ) (starts before : List EpochStart) (start : EpochStart) → starts ≡ before ++ start ∷ [] → is_of start epoch ≡ true
    → keys_back epoch key (reverse starts)
    ≡ cond (is_committed start epoch key) (with_key epoch key (keys_back start.ended (mask_of key (previous_stream epoch) start.previous) (reverse before))) (Err (WrongKey epoch))
unfolding keys_back
of_epoch epoch key starts before start h here =
    ap (keys_back epoch key) (popped starts before start h)
    ∙ ap (λ b. cond b (cond (is_committed start epoch key) (with_key epoch key (keys_back start.ended (mask_of key (previous_stream epoch) start.previous) (reverse before))) (Err (WrongKey epoch))) (keys_back epoch key (reverse before))) here

-- one of the epoch that committed to another key
pub wrong_key : (ring : Keys) (epoch : ℕ) (key : List ℕ) (starts before : List EpochStart) (start : EpochStart) → starts ≡ before ++ start ∷ []
    → is_of start epoch ≡ true → is_committed start epoch key ≡ false
    → ring_of ring (keys_back epoch key (reverse starts)) ≡ Err (WrongKey epoch)
wrong_key ring epoch key starts before start h here other =
    ap (ring_of ring) (of_epoch epoch key starts before start h here)
    ∙ ap (λ b. ring_of ring (cond b (with_key epoch key (keys_back start.ended (mask_of key (previous_stream epoch) start.previous) (reverse before))) (Err (WrongKey epoch)))) other

-- one of the epoch that committed to the key
pub stepped_back : (ring : Keys) (epoch : ℕ) (key : List ℕ) (starts before : List EpochStart) (start : EpochStart) → starts ≡ before ++ start ∷ []
    → is_of start epoch ≡ true → is_committed start epoch key ≡ true
    → ring_of ring (keys_back epoch key (reverse starts))
    ≡ ring_of (insert ring epoch key) (keys_back start.ended (mask_of key (previous_stream epoch) start.previous) (reverse before))
stepped_back ring epoch key starts before start h here same =
    ap (ring_of ring) (of_epoch epoch key starts before start h here)
    ∙ ap (λ b. ring_of ring (cond b (with_key epoch key (keys_back start.ended (mask_of key (previous_stream epoch) start.previous) (reverse before))) (Err (WrongKey epoch)))) same
    ∙ ring_of-with_key ring epoch key (keys_back start.ended (mask_of key (previous_stream epoch) start.previous) (reverse before))
