-- What a pass knows at first, and after each call.
use Rattle.std.specs.Prelude.{ℕ, ◌+◌, max, true, false, List, [], ◌∷◌, ◌++◌, length, drop}
use Rattle.sporc_turn.specs.declared.known.Known.{Known}
use Rattle.sporc_turn.specs.Log.{longer, shorter}

module _ {E : Type 0} where
  -- number 0, which has seen the log of the value that was handed in
  abbrev pub first_known : List E → Known E
  first_known log = record {
    number = 0;
    spent = false;
    start = length log;
    seen = log;
    mine = [];
    unmatched = [];
    news = 0;
    splits = 0;
    joined = [];
  }

  -- the turn came: the whole log was seen
  abbrev pub seeing : Known E → List E → Known E
  seeing k log = record k { seen = log }

  -- the value was given back: the items after those that were seen are the pass's own
  abbrev pub adding : Known E → List E → Known E
  adding k log = record k { seen = log; mine = k.mine ++ drop (length k.seen) log }

  -- the news were read
  abbrev pub hearing : Known E → ℕ → Known E
  hearing k news = record k { news = news }

  -- number 0 after one more split, and the new pass
  abbrev pub splitting : Known E → Known E
  splitting k = record k { splits = k.splits + 1 }

  abbrev pub copied : Known E → Known E
  copied k = record k { number = k.splits + 1; mine = []; unmatched = []; splits = 0; joined = [] }

  -- number 0 has seen the longer list, and keeps the other pass's items. The lists are to be
  -- compared
  abbrev pub joining : Known E → Known E → Known E
  joining k other = record k {
    seen = longer k.seen other.seen;
    unmatched = shorter k.seen other.seen;
    news = max k.news other.news;
    joined = record { number = other.number; items = other.mine } ∷ k.joined;
  }

  -- the lists were compared
  abbrev pub matched : Known E → Known E
  matched k = record k { unmatched = [] }

  -- number 0 after a join
  abbrev pub joined_with : Known E → Known E → Known E
  joined_with k other = matched (joining k other)

  -- a pass that was joined to another
  abbrev pub nothing_known : Known E
  nothing_known = record {
    number = 0;
    spent = true;
    start = 0;
    seen = [];
    mine = [];
    unmatched = [];
    news = 0;
    splits = 0;
    joined = [];
  }
