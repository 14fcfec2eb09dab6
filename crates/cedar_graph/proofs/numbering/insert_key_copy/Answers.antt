use Rattle.std.proofs.Common.{◌≡◌, true, inl, inr, ap, rules, ◌∙◌}
use Rattle.cedar_graph.proofs.Numbers.{put_more, put_one, put_fresh}
use Rattle.cedar_graph.proofs.numbering.insert_key_copy.Goals as goal

pub returns : goal.returns
returns g c =
    let eq = g.K.PartialEq.eq in
    let laws = g.met.K.Eq.laws in
    let old = c.args.keys.now.keys in
    let key = c.args.key.now in
    let copy = c.in_ok-clone.field-0 in
    let same : eq key copy ≡ true = c.requires _ _ c.in_ok-clone.ensures.cases in
    let e = c.in_ok-number.ensures in
    let s = e.stored in
    record {
      unique = search rules;
      found = rw s.1 (laws.congr key copy s.0 same ∙ s.2);
      one = rw e.keys (put_one eq old copy);
      fresh = λ i k h. elim (put_fresh eq old copy i k (rw (e.keys) at h)) [
        | inl p ↦ inl p
        | inr p ↦ inr (ap (eq key) p ∙ same)
      ];
      more = rw e.keys (put_more eq old copy);
    }
