use Rattle.cedar_c_stores.proofs.query_cache.QueryCache.make_room.Goals as goal

pub returns-then-is_full : goal.returns-then-is_full
returns-then-is_full g c S a = c.new.ensures S
