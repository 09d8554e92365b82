-- `build_links` meets its contract: heads, copies and rows make the system's matrix, and `link_all` links it. Assumes nothing.
use Rattle.rows.proofs.StandingLaws.{stands}
use Rattle.knuth.proofs.BuildingLaws.{posed, begun}
use Rattle.knuth.proofs.building.build_links.Goals as goal

pub link_all-requires : goal.link_all-requires
link_all-requires c =
    let a = c.args in
    let r = c.put_rows-nodes in
    posed a.system.now.d a.system.now.work.now a.system.now.chart.now (stands a.system.now) c.requires a.links.now c.put_heads.new.links c.put_copies.new.links r.new.links
    c.put_heads.ensures c.put_copies.ensures r.ensures.1 r.result r.ensures.0

pub returns : goal.returns
returns c =
    let a = c.args in
    let r = c.put_rows-nodes in
    let all = c.link_all in
    begun a.system.now.d a.system.now.work.now a.system.now.chart.now (stands a.system.now) c.requires a.links.now c.put_heads.new.links c.put_copies.new.links r.new.links
    c.put_heads.ensures c.put_copies.ensures r.ensures.1 r.result r.ensures.0 all.new.links all.ensures.linked
