mod Copies
mod NewKeys
mod NodesAtKeys
