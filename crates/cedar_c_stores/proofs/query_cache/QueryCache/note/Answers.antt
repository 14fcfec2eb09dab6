use Rattle.cedar_c_stores.proofs.query_cache.QueryCache.note.Goals as goal

pub returns-in_err-cache_name : goal.returns-in_err-cache_name
returns-in_err-cache_name g c S u read entity_at name a = c.cache_name.ensures S name (c.make_room.ensures S a)

pub returns : goal.returns
returns g c S u read entity_at name a =
    c.cache_ancestors.ensures S u read entity_at (c.cache_name.ensures S name (c.make_room.ensures S a))
