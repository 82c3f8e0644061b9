pub mod ByteLists
pub mod RegisterLists
