use Rattle.cedar_components.proofs.Searching.{root_opened, opens_seen}
use Rattle.cedar_components.proofs.search.search_from.Goals as goal

pub loop-s-init : goal.loop-s-init
loop-s-init c =
    let s = c.args.s.now in
    let t = c.open.new.s in
    let w = c.args.root in
    let r = c.requires in
    let o = c.in_ok-open.ensures in
    record {
      goes_on = root_opened w s t o c.args.arcs.now r.search r.root r.no_path;
      root = opens_seen w s t o r.root.within;
    }
