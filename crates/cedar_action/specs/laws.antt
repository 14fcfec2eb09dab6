pub mod RuleOrders
pub mod RuleSlots
pub mod UidCopies
