pub mod Keyed
pub mod Heap
pub mod HeapView
pub mod Ready
pub mod ReadyView
pub mod KeyedView
