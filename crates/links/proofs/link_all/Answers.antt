-- `link_all` meets its contract: the heads are linked, then the nodes, and nothing behind the counts changes. Assumes nothing.
use Rattle.links.proofs.Places.{fields_of}
use Rattle.links.proofs.Whole.{whole_linkable, whole_seek}
use Rattle.links.proofs.link_all.Goals as goal

pub link_nodes-requires : goal.link_nodes-requires
link_nodes-requires c =
    let q = c.requires in
    let p = q.stored in
    let h = c.link_heads.ensures in
    whole_linkable p.t p.law (fields_of h.room p.written) q.shape q.stocked p.c_is p.n_is _ h.linked h.behind

pub returns-clause-linked : goal.returns-clause-linked
returns-clause-linked c = (λ t law f s k e g.
    let h = c.link_heads.ensures in
    whole_seek t law (fields_of h.room f) s k e g _ h.linked h.behind _ c.link_nodes.ensures.linked c.link_nodes.ensures.behind)
