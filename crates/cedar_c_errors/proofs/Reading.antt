-- One more uid is parsed, from the next part.
use Rattle.std.proofs.Common.{◌++◌, ◌+◌, ◌<◌, ℕ, List, [], ◌∷◌, length, take}
use Rattle.std.proofs.Math.ListN.{get_or}
use Rattle.cedar_ids.specs.declared.entity.EntityUID.{EntityUID}
use Rattle.cedar_c_lists.specs.Texts.{IsReadAt}
use Rattle.cedar_c_lists.specs.declared.layout.Span.{Span}
use Rattle.cedar_c_lists.specs.laws.Zipping.{read_more_uids}
use Rattle.cedar_c_errors.specs.Unread.{AreAllRead}

pub one_more_read : (text : List ℕ) (spans : List Span) (k : ℕ) (d : Span) → k < length spans
    → AreAllRead text (take k spans) → (u : EntityUID) × IsReadAt text u (get_or spans k d)
    → AreAllRead text (take (k + 1) spans)
one_more_read text spans k d l r u = (r.0 ++ u.0 ∷ [], read_more_uids text r.0 spans k d u.0 l r.1 u.1)
